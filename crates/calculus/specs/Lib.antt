-- What a reader must believe of the calculus, in the order of document 01; apart from it, Inner.
pub mod Formula
pub mod Items
pub mod Derivation
pub mod Steps
pub mod Job
pub mod Walk
pub mod Wanted
pub mod Ways
pub mod Runs
pub mod Inner
