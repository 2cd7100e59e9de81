pub mod CaselessLineKeys
pub mod LineCommands
pub mod LineKeys
pub mod LineWords
pub mod LinesProgram
