pub mod Asks
pub mod Causes
pub mod Refusals
pub mod Places
