mod Accepted
mod Begun
mod Chains
mod Ended
pub mod Keeping
