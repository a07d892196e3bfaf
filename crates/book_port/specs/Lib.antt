pub mod Answers
pub mod Chronicles
pub mod Follows
pub mod laws
pub mod Opened
pub mod Ports
pub mod worked
