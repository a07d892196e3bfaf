pub mod Gates
pub mod Histories
pub mod Journal
pub mod Answers
pub mod inner
pub mod laws
pub mod worked
