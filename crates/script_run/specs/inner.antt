-- What private functions alone cite.
pub mod Replies
pub mod ScriptBooks
pub mod ScriptEnds
pub mod StreamCalls
