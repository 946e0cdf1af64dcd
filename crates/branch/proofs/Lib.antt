-- Theorems about the definitions of specs/ that belong to no one function.
pub mod CountsKept
