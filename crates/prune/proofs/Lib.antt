-- Laws of the prunings.
pub mod ScopesAgree
pub mod RootsKept
pub mod PruningsTell
