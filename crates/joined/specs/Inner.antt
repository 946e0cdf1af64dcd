-- What no public contract mentions: the terms of inner contracts and of theorems on the way.
pub mod Written
pub mod Copied
