pub mod laws
pub mod Histories
pub mod Serving
pub mod Sessions
