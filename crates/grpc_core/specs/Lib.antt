pub mod Heads
pub mod Messages
pub mod Replies
pub mod Splitters
pub mod worked
