pub mod Fronts
pub mod Runs
pub mod Nodes
pub mod RowFronts
pub mod Instances
pub mod Leaves
pub mod Targets
