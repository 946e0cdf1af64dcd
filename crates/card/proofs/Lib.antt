-- Laws and theorems that belong to no one function.
pub mod FaultsInOrder
pub mod FrontChecked
pub mod TablesGrow
pub mod KindsByRow
pub mod NodesBuilt
pub mod CardChecked
pub mod NodesDecoded
pub mod SampleCards
pub mod FaultsInRange
pub mod SoundNodes
pub mod WeightsFall
pub mod EachNode
pub mod StepsFitAByte
pub mod MarksByLines
pub mod SureByKinds
