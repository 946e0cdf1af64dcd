-- The terms of the search's own contracts: what it finds.
pub mod Found
