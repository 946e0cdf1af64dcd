-- The terms of the contracts: the tables, which lines wait for which, and masks of lines.
pub mod Entries
pub mod Twins
pub mod Masks
