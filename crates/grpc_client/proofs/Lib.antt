pub mod Breaking
pub mod Calling
pub mod Heads
pub mod Joining
pub mod Opening
pub mod Steps
