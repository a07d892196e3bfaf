pub mod Accepting
pub mod inner
pub mod Jobs
pub mod Joining
pub mod laws
pub mod Serving
pub mod Twins
