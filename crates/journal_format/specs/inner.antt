pub mod Progress
pub mod Read
