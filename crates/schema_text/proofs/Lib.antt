pub mod Declarations
pub mod Enums
pub mod Faults
pub mod Folded
pub mod Formed
pub mod Placed
pub mod Taken
pub mod Utf8
