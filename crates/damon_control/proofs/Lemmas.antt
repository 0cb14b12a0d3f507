-- What the crates above may cite of the proofs of this crate.
pub use Rattle.damon_control.proofs.CallsFit.{heads_writable, live_scripts_spellable}
pub use Rattle.damon_control.proofs.CommitFields.{no_commit_fits, parts_keep}
pub use Rattle.damon_control.proofs.CommitLemmas.{few_more}
pub use Rattle.damon_control.proofs.CommitParts.{parts_read_back, parts_written}
pub use Rattle.damon_control.proofs.HeadWritten.{heads_read_back, heads_read_only}
pub use Rattle.damon_control.proofs.LeadingScript.{texts_read}
pub use Rattle.damon_control.proofs.LiveLimits.{live_scripts_sound}
pub use Rattle.damon_control.proofs.TextLimits.{scripts_sound}
