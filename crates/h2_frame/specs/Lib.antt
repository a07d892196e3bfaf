pub mod ErrorCodes
pub mod Frames
pub mod Kinds
