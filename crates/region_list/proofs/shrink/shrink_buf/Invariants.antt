use Rattle.std.proofs.Common.{◌≡◌, ℕ, vec_capacity}
use Rattle.damon_types.specs.Span.{spans}
use Rattle.region_list.specs.Tiling.{Tiling}
use Rattle.region_list.specs.Shrink.{shrunk}
use Rattle.region_list.proofs.SweepLemmas.{levels_left}
use Rattle.region_list.proofs.shrink.shrink_buf.Given as goal

abbrev pub invariant-levels : goal.invariant-levels
invariant-levels l = record {
  tiles : (unit : ℕ) → Tiling unit l.ranges.list (spans l.fn.rows.rows) → Tiling unit l.ranges.list (spans l.rows.rows);
  so_far : shrunk l.ranges.list l.to l.rows.rows ≡ shrunk l.ranges.list l.to l.fn.rows.rows;
  capacity : l.rows.cap ≡ l.fn.rows.cap;
}

abbrev pub decreases-levels : goal.decreases-levels
decreases-levels l = levels_left l.ranges.list l.to l.rows.rows
