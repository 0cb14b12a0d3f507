-- What the crates above may cite of the proofs of this crate.
pub use Rattle.watermarks.proofs.ActiveLemmas.{is_active-push}
