-- Laws that belong to no one function.
pub mod SourceFound
pub mod CardsJoined
pub mod BenchDecided
