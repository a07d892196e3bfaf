pub mod Calls
pub mod Fronts
pub mod Images
pub mod Machine
pub mod Masks
pub mod Moving
pub mod Progress
