pub mod Logs
pub mod worked
