-- The terms of the moves' contracts.
pub mod Moves
