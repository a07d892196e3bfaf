pub mod NameTexts
pub mod Cuts
pub mod Decimals
