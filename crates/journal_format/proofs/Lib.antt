pub mod Histories
pub mod Next
pub mod Runs
pub mod Headers
pub mod Loop
pub mod Following
