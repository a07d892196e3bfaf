pub mod Capabilities
