pub mod Draws
pub mod Schemas
pub mod Messages
pub mod Connections
pub mod worked
