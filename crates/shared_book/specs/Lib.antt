pub mod inner
pub mod Items
pub mod laws
pub mod Visits
