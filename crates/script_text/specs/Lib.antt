pub mod Grammar
pub mod Lines
pub mod Ranges
pub mod Words
pub mod inner
pub mod laws
pub mod worked
