pub mod Arming
pub mod Calls
pub mod Content
pub mod Images
pub mod inner
pub mod Moments
pub mod Reading
pub mod worked
