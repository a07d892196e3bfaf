pub mod ClosingLaws
pub mod DoubtLaws
pub mod OpeningLaws
pub mod ReopeningLaws
