pub mod AuditLemmas
pub mod ChainLemmas
pub mod EndLemmas
pub mod LineLemmas
pub mod OpeningLemmas
pub mod ProgramLemmas
pub mod UnderLemmas
pub mod VersionLemmas
