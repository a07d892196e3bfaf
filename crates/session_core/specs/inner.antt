pub mod Ends
pub mod Feeders
pub mod Places
pub mod Sending
pub mod Steps
pub mod Words
