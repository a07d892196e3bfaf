pub mod Fronts
pub mod SevenBits
