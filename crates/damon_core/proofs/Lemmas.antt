-- What the crates above may cite of the proofs of this crate.
pub use Rattle.damon_core.proofs.ServeParts.{run_served, serve_now}
pub use Rattle.damon_core.proofs.NoteParts.{set_note, with_cost, with_metric, with_slot}
pub use Rattle.damon_core.proofs.SchemesStay.{IsNoCommit, scheme_stays, slot_same, slots_same, turn_same}
pub use Rattle.damon_core.proofs.Committed.{few_after, phase_kept, kept_if_void}
pub use Rattle.damon_core.proofs.Following.{run-append, AllFit-append, Reached-run, AllByHit-append, Makes-append, ReachedByHit-run, reached_of}
pub use Rattle.damon_core.proofs.Reported.{reached_reported, reports_all}
pub use Rattle.damon_core.proofs.PagesKept.{word_aggregated, word_opening}
