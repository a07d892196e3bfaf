pub mod Receiving
pub mod inner
