pub mod Books
pub mod Feeds
pub mod inner
pub mod Wires
pub mod worked
