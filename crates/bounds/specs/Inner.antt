-- Counting items of a class; bounds of goals from bounds of names; and the table of a card that holds such bounds by node.
pub mod Count
pub mod Bound
pub mod Table
pub mod Doom
