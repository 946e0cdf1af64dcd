-- What a reader must believe of the trays.
pub mod Trays
