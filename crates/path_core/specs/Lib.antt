pub mod PathText
pub mod inner
pub mod worked
