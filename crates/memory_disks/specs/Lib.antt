pub mod Contents
pub mod Fuses
pub mod inner
pub mod Octets
pub mod Views
pub mod worked
