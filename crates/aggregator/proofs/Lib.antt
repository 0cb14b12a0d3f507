mod RowLemmas
pub mod Lemmas
mod Examples
