pub mod Leaves
pub mod Runs
pub mod Trees
pub mod inner
pub mod laws
pub mod worked
