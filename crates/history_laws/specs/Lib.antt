pub mod HistoryLaws
pub mod LegalLaws
pub mod OrderLaws
pub mod RoomLaws
pub mod SoundLaws
pub mod StepLaws
pub mod TreeLaws
pub mod TrialLaws
