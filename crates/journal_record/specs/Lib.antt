pub mod Spelling
pub mod Representable
pub mod inner
pub mod worked
