pub mod Notifications
pub mod ReadBack
pub mod Reading
