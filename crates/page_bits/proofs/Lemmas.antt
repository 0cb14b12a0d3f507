-- What the crates above may cite of the proofs of this crate.
pub use Rattle.page_bits.proofs.Counting.{count_adds, count_more, count_none, count_run_le, count_same}
pub use Rattle.page_bits.proofs.Masking.{before_run, behind_run, both_bits, run_joins}
