pub mod Texts
pub mod FieldsIn
pub mod Pieces
pub mod Held
pub mod ReadBack
pub mod Single
pub mod ValuesBack
