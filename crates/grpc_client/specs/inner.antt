pub mod Openings
pub mod Rounds
