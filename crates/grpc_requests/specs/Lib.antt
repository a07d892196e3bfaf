pub mod Calls
pub mod Requests
pub mod inner
pub mod worked
