pub mod Images
pub mod Ledgers
pub mod Openings
pub mod Writes
pub mod inner
