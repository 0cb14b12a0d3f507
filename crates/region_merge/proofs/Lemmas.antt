-- What the crates above may cite of the proofs of this crate.
pub use Rattle.region_merge.proofs.MergedLemmas.{tiling_merged, length_merged, some_merged, counts_merged}
