-- What the crates above may cite of the proofs of this crate.
pub use Rattle.damon_types.proofs.ByteLemmas.{page_of-below, page_of-rises}
pub use Rattle.damon_types.proofs.PlaceLemmas.{offset-le, offset-next, place_from_held}
pub use Rattle.damon_types.proofs.Checks.{and_ok, both_ok, fault_as_ok}
pub use Rattle.damon_types.proofs.Each.{all_append, all_at, all_parts, all_weaker}
pub use Rattle.damon_types.proofs.RangeLemmas.{end_at}
pub use Rattle.damon_types.proofs.Tests.{and_false, or_false, or_true}
