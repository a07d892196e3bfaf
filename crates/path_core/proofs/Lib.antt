pub mod Elems
pub mod Kept
pub mod Keys
pub mod Passed
pub mod Runs
pub mod Searches
pub mod Spellings
pub mod ValueTexts
