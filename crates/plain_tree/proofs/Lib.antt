pub mod Chosen
pub mod Gaps
pub mod Placing
