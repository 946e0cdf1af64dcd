-- The bounds of a node by its kind, and what the answer of a check says.
pub mod KindsNamed
mod StepsByKind
pub mod ChecksDecide
pub mod WaysByKind
