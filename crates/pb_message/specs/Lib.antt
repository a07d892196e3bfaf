pub mod Fronts
pub mod Fields
pub mod Values
pub mod worked
