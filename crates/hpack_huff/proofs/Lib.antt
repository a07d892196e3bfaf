pub mod BitsLemmas
pub mod CodeLemmas
pub mod Examples
pub mod HuffmanLemmas
pub mod PendingLemmas
