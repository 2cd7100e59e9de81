pub mod AuditSteps
pub mod ChainSteps
pub mod Groups
pub mod OpeningSteps
pub mod UnderSteps
