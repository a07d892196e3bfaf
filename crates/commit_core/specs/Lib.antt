pub mod CoreView
pub mod inner
