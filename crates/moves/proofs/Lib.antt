-- The parts of a node fit an agenda's place.
mod PartsFit
