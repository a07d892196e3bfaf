pub mod LogView
pub mod Refusals
pub mod StandsFor
