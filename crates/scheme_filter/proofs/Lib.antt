mod ChangeLemmas
mod FoundLemmas
mod LongestLemmas
mod RowLemmas
mod RangeLemmas
mod RunsOfLemmas
pub mod Lemmas
mod Examples
