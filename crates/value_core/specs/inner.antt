pub mod Cuts
pub mod ValueTexts
