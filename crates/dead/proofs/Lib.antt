-- Laws of the memory of dead states.
pub mod LinesDecide
pub mod RowsKept
pub mod DeadStaysDead
