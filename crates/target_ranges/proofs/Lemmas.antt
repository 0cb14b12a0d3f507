-- What the crates above may cite of the proofs of this crate.
pub use Rattle.target_ranges.proofs.Faults.{checked_ranges-append, checked_ranges-push, checked_ranges-room}
pub use Rattle.target_ranges.proofs.Offsets.{base_of_there}
pub use Rattle.target_ranges.proofs.Made.{IsGood, each_made, good_from, is_good, made_each, made_in_order, made_wide, made_within}
