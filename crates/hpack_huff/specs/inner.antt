pub mod Next
pub mod Taken
pub mod Window
