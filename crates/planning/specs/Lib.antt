-- What a reader must believe of the planner's answer and buffer; apart from it, Inner.
pub mod Plan
pub mod Inner
