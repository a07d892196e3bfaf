pub mod Octets
pub mod Stopping
