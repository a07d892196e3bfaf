pub mod Words
pub mod Requests
pub mod Printing
pub mod Run
pub mod inner
pub mod worked
