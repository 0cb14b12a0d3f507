-- What the crates above may cite of the proofs of this crate.
pub use Rattle.reclaim_module.proofs.Standing.{length_after_action, stands_at_first}
pub use Rattle.reclaim_module.proofs.Serving.{applied_alike, applied_next, opening_is_still}
pub use Rattle.reclaim_module.proofs.Balancing.{action_few, balance, first_runs_few, others_are_resident}
pub use Rattle.reclaim_module.proofs.Reaching.{few_went_out}
pub use Rattle.reclaim_module.proofs.Following.{events_leave, events_stand, space_stays}
pub use Rattle.reclaim_module.proofs.TouchedRuns.{touched_first, touched_none}
pub use Rattle.reclaim_module.proofs.BySlot.{page_out_slot_by_slot, runs_of_slots, schemes_stay}
pub use Rattle.reclaim_module.proofs.Lasting.{out_by_last, since_last}
