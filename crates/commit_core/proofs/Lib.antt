pub mod Effects
pub mod Histories
pub mod Judged
pub mod Rising
pub mod Wholes
