-- Uses of a bare name and of a recipe with one condition.
mod UsesByKind
