-- The terms of the contracts: the rows of the memory, and what they say.
pub mod Rows
pub mod Barren
