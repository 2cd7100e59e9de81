pub mod LineLemmas
pub mod WindowLemmas
