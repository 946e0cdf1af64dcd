-- What a reader must believe of the card and the sheet, in the order of document 01; apart from it, Inner.
pub mod Format
pub mod Kinds
pub mod Verdict
pub mod Fault
pub mod Decode
pub mod Sheet
pub mod Sample
pub mod Inner
