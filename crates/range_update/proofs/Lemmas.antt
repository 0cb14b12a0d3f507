-- What the crates above may cite of the proofs of this crate.
pub use Rattle.range_update.proofs.UpdatedLemmas.{tiling_updated, length_updated, some_updated, counts_updated}
