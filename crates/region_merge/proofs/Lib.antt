mod GroupingLemmas
mod MergedLemmas
mod StayLemmas
mod StepLemmas
pub mod Lemmas
mod Examples
