-- Rows that lie in a space and are disjoint.
use Rattle.std.specs.Prelude.{◌+◌, ◌≤◌, ◌<◌, List, length}
use Rattle.std.specs.List.{AllByRecursion}
use Rattle.damon_types.specs.declared.row.Row.{Row}
use Rattle.damon_types.specs.declared.space.Target.{Target}
use Rattle.damon_types.specs.Space.{offset}
use Rattle.region_list.specs.Find.{AscendFrom}

-- the pages of the row are pages of its target
pub record IsRowOf (ts : List Target) (r : Row) : Type 0 where
  pub target : r.target < length ts
  pub from : offset ts r.target ≤ r.start
  pub to : r.start + r.pages ≤ offset ts (r.target + 1)

-- each row lies in its target, and begins at or after the end of the row before it
pub record LieIn (ts : List Target) (rows : List Row) : Type 0 where
  pub each : AllByRecursion (IsRowOf ts) rows
  pub ascend : AscendFrom 0 rows
