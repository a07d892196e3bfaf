pub mod Due
pub mod Gaps
pub mod Kept
pub mod Merging
pub mod Walks
