-- What a reader must believe of two cards on one bench.
pub mod Bench
