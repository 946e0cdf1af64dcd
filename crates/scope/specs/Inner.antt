-- The terms of the scope's contracts.
pub mod Sets
pub mod Tables
