pub mod Events
pub mod Items
pub mod Ports
