-- What a reader must believe of the numbers that the calls over two cards answer.
pub mod BenchNumbers
