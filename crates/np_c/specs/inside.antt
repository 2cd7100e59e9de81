pub mod FaultAnswers
pub mod FoldingSteps
pub mod NameLists
pub mod Owned
pub mod Questions
pub mod Streams
