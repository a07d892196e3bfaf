pub mod Terms
pub mod Marks
pub mod Crashes
pub mod Sessions
pub mod Connections
pub mod OneHistory
pub mod OneScript
pub mod Headline
