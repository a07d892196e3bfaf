pub mod Actions
pub mod TextPaths
pub mod ReadBack
