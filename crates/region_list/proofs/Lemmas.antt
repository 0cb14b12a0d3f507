-- What the crates above may cite of the proofs of this crate.
pub use Rattle.region_list.proofs.TilingLemmas.{RiseFrom, tiles, tiling_some, tiling_weaker}
pub use Rattle.region_list.proofs.DivisionLemmas.{tiling_divided}
pub use Rattle.region_list.proofs.ShrinkLemmas.{counts_shrunk, length_shrunk, shrunk_same, some_shrunk, tiling_shrunk}
pub use Rattle.region_list.proofs.LawLemmas.{begins_first, begins_fits, begins_joined, begins_next, begins_same, begins_some, joined_tiling}
pub use Rattle.region_list.proofs.RefineLemmas.{refined_tiling}
pub use Rattle.region_list.proofs.SameLemmas.{spans_decide}
pub use Rattle.region_list.proofs.WalkLemmas.{ordered_after}
