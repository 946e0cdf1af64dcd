-- The terms of the contracts: what each change of a branch, of a way and of a floor is.
pub mod Values
