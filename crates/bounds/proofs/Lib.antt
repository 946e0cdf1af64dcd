-- Theorems about the definitions of specs/ that belong to no one function.
pub mod CountLaws
pub mod GoalsBounded
pub mod AgendasBounded
pub mod NodesBounded
pub mod StockCounted
pub mod DoomedHasNone
pub mod WordCounted
pub mod CellsKept
pub mod CodesRowed
pub mod WaysSmall
pub mod EachBelow
