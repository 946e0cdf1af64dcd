-- The terms of the contracts: what the prunings ask, and what they tell.
pub mod Prune
