-- What the crates above may cite of the proofs of this crate.
pub use Rattle.priority.proofs.ShareLemmas.{shares_fit, starts_shares}
pub use Rattle.priority.proofs.RankLemmas.{order_of, same_of, shares_of_order}
pub use Rattle.priority.proofs.TakenLemmas.{taken_within}
pub use Rattle.priority.proofs.BestLemmas.{certified, shares_best}
pub use Rattle.priority.proofs.CountLemmas.{exceeds_permuted, lowest_permuted, taken_permuted}
