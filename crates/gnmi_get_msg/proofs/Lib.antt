pub mod Modules
pub mod ReadBack
