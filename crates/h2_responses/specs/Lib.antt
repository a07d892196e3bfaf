pub mod States
pub mod Outcomes
pub mod Meanings
pub mod worked
