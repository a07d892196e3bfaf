pub mod Orders
pub mod Streams
