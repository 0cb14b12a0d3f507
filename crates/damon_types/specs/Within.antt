-- Ranges that lie in a space.
use Rattle.std.specs.Prelude.{◌+◌, ◌≤◌, ◌<◌, All, List, length}
use Rattle.damon_types.specs.declared.space.Target.{Target}
use Rattle.damon_types.specs.declared.range.Range.{Range}
use Rattle.damon_types.specs.Ranges.{end_of}
use Rattle.damon_types.specs.Space.{offset}

-- the pages of the range are pages of its target
pub record LiesInTarget (ts : List Target) (g : Range) : Type 0 where
  pub target : g.target < length ts
  pub from : offset ts g.target ≤ g.first
  pub to : end_of g ≤ offset ts (g.target + 1)

-- each range lies in its target
abbrev pub AreWithin : List Target → List Range → Type 0
AreWithin ts gs = All (LiesInTarget ts) gs
