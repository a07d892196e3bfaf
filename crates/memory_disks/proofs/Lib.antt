pub mod Free
pub mod Fused
pub mod Laid
pub mod Stopping
pub mod Views
