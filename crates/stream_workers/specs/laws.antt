pub mod FeederLaws
pub mod PortLaws
