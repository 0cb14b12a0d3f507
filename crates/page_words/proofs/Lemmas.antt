-- What the crates above may cite of the proofs of this crate.
pub use Rattle.page_words.proofs.StepsOfPass.{all_cleared, take_next}
