-- What the crates above may cite of the proofs of this crate.
pub use Rattle.damon_world.proofs.Hits.{by_hit-in}
pub use Rattle.damon_world.proofs.Following.{along-append, along-state, Reached-along}
