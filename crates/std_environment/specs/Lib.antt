pub mod HeldStarters
pub mod Starters
