-- Theorems about the calls of the walk.
pub mod CallsAreReady
