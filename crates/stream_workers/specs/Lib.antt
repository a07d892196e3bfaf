pub mod Feeders
pub mod laws
pub mod Ports
