-- Laws of segments.
pub mod TasksAreAgendas
pub mod TurnsTell
pub mod KindsNumbered
