pub mod Children
pub mod Fronts
pub mod Powers
pub mod Stamps
