-- What the crates above may cite of the proofs of this crate.
pub use Rattle.scheme_engine.proofs.OutcomeLemmas.{outcome_best, outcome_counts, outcome_some, outcome_sum, outcome_tiled, outcome_within}
pub use Rattle.scheme_engine.proofs.SlotLemmas.{counts_fit, slots_begun, slots_bounded, slots_some, slots_space, slots_tiled, slots_windows}
pub use Rattle.scheme_engine.proofs.BestLemmas.{served_best}
