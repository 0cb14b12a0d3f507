-- What the crates above may cite of the proofs of this crate.
pub use Rattle.sampler.proofs.Words.{drawn-append, drawn-one, drawn_rest-append, drawn_rest-one, words_jumped}
