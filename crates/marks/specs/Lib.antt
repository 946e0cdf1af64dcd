-- What a reader must believe of the marks of a sheet that is read.
pub mod Marks
-- Nothing here is mentioned by a public contract.
pub mod Inner
