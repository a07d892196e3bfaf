-- The definitions on small cases.
pub mod Armings
pub mod Images
