pub mod Lists
pub mod Owning
pub mod Finding
pub mod Turning
pub mod Meeting
pub mod Sending
pub mod Crossing
pub mod Ending
