pub mod Numbers
pub mod Lists
pub mod Requests
pub mod Turns
pub mod Replies
