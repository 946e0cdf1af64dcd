-- Theorems about the tables and about wider twins.
pub mod TablesAreScopes
pub mod TestLaws
pub mod SwappingKeeps
pub mod TwinsLoseNothing
pub mod MasksAreTwins
