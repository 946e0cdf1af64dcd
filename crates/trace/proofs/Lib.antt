-- Theorems about the definitions of specs/ that belong to no one function.
pub mod FollowsExactly
pub mod StepsMean
pub mod NeverDivides
