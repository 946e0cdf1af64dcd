-- What a reader must believe of a sheet that is read; apart from it, Inner.
pub mod Front
pub mod Inner
