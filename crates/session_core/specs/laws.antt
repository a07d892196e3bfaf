pub mod FeederLaws
pub mod RunLaws
pub mod StreamLaws
pub mod PollLaws
