-- What the crates above may cite of the proofs of this crate.
pub use Rattle.scheme_filter.proofs.RunsOfLemmas.{runs_of-longest, runs_of-pages}
