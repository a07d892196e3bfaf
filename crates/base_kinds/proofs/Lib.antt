pub mod Lists
pub mod SixRules
