pub mod Numbers
pub mod Commits
pub mod Extensions
pub mod Writing
pub mod ReadBack
