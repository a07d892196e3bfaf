pub mod Beating
pub mod Found
pub mod Joining
pub mod Turned
pub mod Walking
