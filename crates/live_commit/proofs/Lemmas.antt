-- What the crates above may cite of the proofs of this crate.
pub use Rattle.live_commit.proofs.Accepting.{commit_accepted, setup_accepted}
pub use Rattle.live_commit.proofs.Changes.{checked_slots-push}
pub use Rattle.live_commit.proofs.Limits.{AreLimits, limits_kept}
