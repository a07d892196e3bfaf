-- What private functions alone cite.
pub mod Books
pub mod Faults
pub mod Parts
pub mod Restarts
pub mod Tellings
