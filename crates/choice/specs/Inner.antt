-- The terms of the contracts: the choice of an entry.
pub mod Choice
