mod ActiveLemmas
pub mod Lemmas
mod Examples
