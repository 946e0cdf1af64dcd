-- The three demands, and what they rest on here.
pub mod CheckedByRoom
pub mod WrittenIsRead
pub mod SamplesComeOut
pub mod JoinedIsPlanned
pub mod SamplesJoin
pub mod MarksMean
pub mod Main
