pub mod Numbers
pub mod Asks
pub mod Replies
pub mod ReadBack
pub mod worked
