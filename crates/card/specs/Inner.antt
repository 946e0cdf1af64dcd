-- What no public contract mentions: the terms of inner contracts.
pub mod Checks
pub mod Size
