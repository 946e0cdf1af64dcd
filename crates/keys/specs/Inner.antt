-- The terms of the contract: a key as words.
pub mod Keys
