pub mod Invariant
pub mod Masks
pub mod Openings
