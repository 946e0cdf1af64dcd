-- The terms of the contracts of summaries and of the walk.
pub mod Values
pub mod Walks
