-- What a reader must believe of the checks of two cards.
pub mod Benched
