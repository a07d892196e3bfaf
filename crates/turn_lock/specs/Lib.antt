pub mod Chronicles
pub mod Passes
pub mod inner
