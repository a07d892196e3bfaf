pub mod Message
pub mod Values
pub mod Varint
pub mod Writing
pub mod inner
pub mod worked
