-- What entering a part with a scope or window of its own asks and leaves.
pub mod Inside
