-- What the crates above may cite of the proofs of this crate.
pub use Rattle.text_io.proofs.Counting.{EndsAtFault-as, EndsAtFault-error, EndsAtFault-none, EndsAtFault-not, EndsAtFault-passed, EndsAtFault-rose, EndsAtFault-then}
