pub mod IntegerLemmas
pub mod TableLemmas
pub mod FieldLemmas
pub mod BlockLemmas
pub mod WrittenLemmas
