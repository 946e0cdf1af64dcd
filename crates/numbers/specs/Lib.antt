-- What a reader must believe of the numbers that the calls for C answer.
pub mod Numbers
