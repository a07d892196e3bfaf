pub mod CrashLaws
pub mod EndingLaws
pub mod ScriptLaws
pub mod ScriptTexts
pub mod StreamLaws
pub mod WholeScripts
