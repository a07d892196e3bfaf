pub mod Feeding
pub mod Fronts
pub mod Looking
pub mod Speaking
