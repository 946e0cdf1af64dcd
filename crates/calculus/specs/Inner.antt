-- What no public contract mentions: the terms of inner contracts and of theorems on the way to the demands.
pub mod Summary
pub mod Window
pub mod Trace
pub mod Surely
pub mod Plain
pub mod Renaming
pub mod Height
pub mod Enumeration
