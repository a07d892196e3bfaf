pub mod PlainRules
pub mod PlainWorlds
