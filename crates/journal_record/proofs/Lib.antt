pub mod Texts
pub mod Loops
pub mod Forms
pub mod Parts
pub mod Records
pub mod Lengths
pub mod Entries
pub mod Answered
