-- What private functions and what is kept inside alone cite.
pub mod Kept
pub mod Logs
pub mod Queues
pub mod Ready
