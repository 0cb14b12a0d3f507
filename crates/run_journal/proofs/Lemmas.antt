-- What the crates above may cite of the proofs of this crate.
pub use Rattle.run_journal.proofs.AggregatedPages.{each_reports_all}
pub use Rattle.run_journal.proofs.Growing.{carried-more, grows_by_entry, replay_from-snoc, with_more}
pub use Rattle.run_journal.proofs.Longer.{KeepsCalls, added-keeps, added-last, added-of, called_in, entries-kept, entry-kept, journal-kept, length-added, lengthened, with_calls}
pub use Rattle.run_journal.proofs.NumbersFit.{CallPlaceFits, fit_numbers, lawful_fit}
pub use Rattle.run_journal.proofs.Settling.{cases, settled_receipts}
pub use Rattle.run_journal.proofs.Sizes.{cap_kept}
