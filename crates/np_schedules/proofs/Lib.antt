pub mod EventGrammar
pub mod LineGrammar
pub mod LineLemmas
pub mod NumberLemmas
pub mod PayloadLemmas
pub mod ReadingLemmas
pub mod ScheduleLemmas
