mod AnswerLemmas
mod AsciiLemmas
mod KeyLemmas
mod LaneLemmas
mod NameLemmas
mod Rows
mod StreamLemmas
