-- The definitions on small cases.
pub mod Runs
