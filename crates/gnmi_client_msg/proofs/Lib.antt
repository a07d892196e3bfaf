pub mod Each
pub mod Steps
pub mod ReadBack
pub mod ReplyLaws
pub mod CapabilityLaws
pub mod PathTexts
