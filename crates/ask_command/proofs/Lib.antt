pub mod Faults
pub mod Obeying
pub mod Unread
pub mod WordLists
