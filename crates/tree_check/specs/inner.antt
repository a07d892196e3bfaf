pub mod ListEntries
pub mod WeightLeft
pub mod LeafrefTargets
