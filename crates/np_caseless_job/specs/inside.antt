pub mod FoldingSteps
pub mod Groups
pub mod PairSteps
pub mod UnderSteps
