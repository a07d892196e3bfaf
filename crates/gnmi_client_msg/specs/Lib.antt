pub mod Requests
pub mod Notifications
pub mod Replies
pub mod Capabilities
pub mod ReadBack
pub mod inner
pub mod worked
