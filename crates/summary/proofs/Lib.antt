-- Theorems about the definitions of specs/ that belong to no one function.
pub mod SummariesGather
pub mod CountsKept
pub mod SurelyKept
pub mod WalksTell
pub mod StepsTell
