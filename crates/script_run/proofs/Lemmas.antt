-- What the crates above may cite of the proofs of this crate.
pub use Rattle.script_run.proofs.Alone.{report-alone}
pub use Rattle.script_run.proofs.Continuing.{commands_events-more, events_text-append, onward-state}
pub use Rattle.script_run.proofs.PlayedLemmas.{played-next, played-report, played-state, played-text}
