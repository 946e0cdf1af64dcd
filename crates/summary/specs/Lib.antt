-- What no public contract mentions stands below Inner; here that is all.
pub mod Inner
