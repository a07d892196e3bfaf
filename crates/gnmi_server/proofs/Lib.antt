mod Crossing
mod Ports
mod Runs
pub mod Standing
