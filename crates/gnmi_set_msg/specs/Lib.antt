pub mod Numbers
pub mod Requests
pub mod Asks
pub mod Replies
pub mod ReadBack
pub mod inner
