pub mod Causes
pub mod Grammar
pub mod Schemas
pub mod Words
pub mod inner
pub mod laws
pub mod worked
