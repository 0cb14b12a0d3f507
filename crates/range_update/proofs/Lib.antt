mod RangeLemmas
mod OrderLemmas
mod PieceLemmas
mod SizeLemmas
mod KeptLemmas
mod CountLemmas
mod UpdatedLemmas
pub mod Lemmas
mod Examples
