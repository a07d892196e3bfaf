pub mod Groups
pub mod Plans
pub mod Profile
pub mod worked
