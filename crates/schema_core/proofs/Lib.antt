pub mod NodeLemmas
pub mod IndexLemmas
pub mod WellFormedLemmas
pub mod NameLemmas
