pub mod Entries
pub mod inner
pub mod Parts
pub mod Records
pub mod Visits
pub mod worked
