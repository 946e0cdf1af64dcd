-- What a reader must believe of the refusals of the steps; apart from it, Inner.
pub mod Steps
pub mod Inner
