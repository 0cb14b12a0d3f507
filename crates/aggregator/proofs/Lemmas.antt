-- What the crates above may cite of the proofs of this crate.
pub use Rattle.aggregator.proofs.RowLemmas.{spans_aged, length_aged, counts_aged, spans_cleared, length_cleared, counts_cleared}
