-- The rows of a monitor, as contracts see them.
use Rattle.std.specs.Prelude.{ℕ, ◌≤◌, ◌<◌, ◌^◌, List, length}
use Rattle.damon_types.specs.declared.range.Range.{Range}
use Rattle.damon_types.specs.declared.row.Row.{Row}
use Rattle.damon_types.specs.Ranges.{InOrder}
use Rattle.damon_types.specs.Span.{spans}
use Rattle.region_list.specs.Tiling.{Tiling}

-- the ranges of a monitor, the rows that tile them, the least pages of a row, and the most rows ever (`cap`) and now (`max`)
pub record RegionList : Type 0 where
  pub ranges : List Range
  pub rows : List Row
  pub unit : ℕ
  pub cap : ℕ
  pub max : ℕ

-- the invariant of a region list
pub record IsRegionList (r : RegionList) : Type 0 where
  pub order : InOrder r.ranges
  pub tiling : Tiling r.unit r.ranges (spans r.rows)
  pub unit : 1 ≤ r.unit
  pub few : length r.rows ≤ r.max
  pub least : 1 ≤ r.max
  pub most : r.max ≤ r.cap
  pub small : r.cap < 2 ^ 32
