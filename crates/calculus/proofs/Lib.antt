-- Theorems about the definitions of specs/ that belong to no one function.
pub mod FigureOneByHand
pub mod SetLaws
pub mod SummaryExact
pub mod WindowExact
pub mod EnumerationExact
pub mod TraceExact
pub mod SurelyByList
pub mod SurelyMeans
pub mod PlainIsSure
pub mod WalkExact
pub mod WalksByHand
pub mod ListsNameWays
pub mod RenamingKeeps
pub mod JobsBeside
pub mod StepsBounded
pub mod ItemsListed
