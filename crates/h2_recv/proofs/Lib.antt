pub mod ExactLemmas
pub mod FrameLemmas
pub mod JoinLemmas
pub mod PieceLemmas
pub mod RunLemmas
