-- The lines that a list uses, as a set, and the marks by that set.
pub mod Used
