pub mod Leaves
pub mod Members
pub mod Entries
pub mod Walk
pub mod Rows
pub mod inner
pub mod laws
pub mod worked
