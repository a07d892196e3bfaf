pub mod Faults
pub mod Input
pub mod Memory
pub mod Output
pub mod Clocks
pub mod Outcomes
pub mod Starters
