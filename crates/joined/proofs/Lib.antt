-- What is proved of the joined card.
pub mod LaidInTurn
pub mod WrittenInTurn
pub mod JoinedBytes
pub mod CopiedNodes
pub mod JoinedSound
pub mod JoinedAsks
pub mod JoinedLists
pub mod SampleJoined
