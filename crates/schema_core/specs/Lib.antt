pub mod Identifiers
pub mod Nodes
pub mod Shapes
pub mod WellFormed
pub mod inner
pub mod worked
