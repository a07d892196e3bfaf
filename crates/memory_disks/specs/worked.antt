-- The definitions on small cases.
pub mod Stops
