mod Additions
pub mod BookCrossing
pub mod WireCrossing
