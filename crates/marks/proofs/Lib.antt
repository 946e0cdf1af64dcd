-- Laws that belong to no one function.
pub mod LinesMarked
pub mod LinesGathered
