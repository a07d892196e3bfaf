pub mod Index
pub mod Wanted
