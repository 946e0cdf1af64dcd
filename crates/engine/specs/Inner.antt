-- The terms of the engine's contracts: what each of its functions asks and tells.
pub mod Engine
