pub mod Names
pub mod Numbers
pub mod Splits
pub mod inner
