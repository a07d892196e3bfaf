pub mod Loads
pub mod OpenedSchema
pub mod ParsedCommand
pub mod ServedBook
pub mod SharedBook
