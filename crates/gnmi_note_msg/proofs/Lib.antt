pub mod Says
pub mod ReadBack
