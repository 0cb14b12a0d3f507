-- What the crates above may cite of the proofs of this crate.
pub use Rattle.quota_goal.proofs.Bounding.{bytes_fall, bytes_rise, least_of_bounds, most_of_bounds}
