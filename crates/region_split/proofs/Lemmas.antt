-- What the crates above may cite of the proofs of this crate.
pub use Rattle.region_split.proofs.SplitLemmas.{tiling_split, length_split, some_split, counts_split}
