-- Theorems about the definitions of specs/ that belong to no one function.
pub mod SetsAreItems
pub mod TablesAreScopes
pub mod PartsOfClauses
