pub mod Commands
pub mod Words
pub mod CaselessCommands
pub mod CaselessWords
