pub mod CallLemmas
pub mod FrameLemmas
pub mod KeptLemmas
pub mod LawLemmas
pub mod OutcomeLemmas
pub mod SettingsLemmas
pub mod SoundLemmas
pub mod StreamLemmas
