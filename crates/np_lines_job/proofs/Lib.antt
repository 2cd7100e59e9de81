pub mod LineMatchLemmas
