pub mod Fits
pub mod Matches
pub mod Samples
pub mod Steps
pub mod Texts
pub mod Trees
