-- The terms of the contracts: which agenda the tasks of an array are.
pub mod Tasks
