pub mod GoodScripts
pub mod KeptAnswers
pub mod MemoryRuns
pub mod RunLaws
pub mod WordLaws
