-- What a reader must believe of the joined card; apart from it, Inner.
pub mod Joined
pub mod JoinedJob
pub mod Sample
pub mod Inner
