pub mod AuditLemmas
pub mod FoldingLemmas
pub mod LineLemmas
