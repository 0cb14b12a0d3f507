-- What runs of schemes keep.
use Rattle.std.specs.Prelude.{◌≡◌, ℕ, ◌+◌, ◌*◌, ◌≤◌, ◌<◌, List, length, AllPairs, IfSome}
use Rattle.std.specs.List.{AllByRecursion}
use Rattle.damon_types.specs.declared.space.TheConstants.{MAX_PAGES}
use Rattle.damon_types.specs.declared.space.Target.{Target}
use Rattle.damon_types.specs.Ranges.{InOrder}
use Rattle.damon_types.specs.Space.{pages_of}
use Rattle.damon_types.specs.Span.{Span, spans}
use Rattle.region_list.specs.Regions.{RegionList}
use Rattle.region_list.specs.Tiling.{Tiling}
use Rattle.priority.specs.declared.candidates.Candidate.{Candidate}
use Rattle.scheme_engine.specs.declared.applied.AppliedRun.{AppliedRun}
use Rattle.scheme_engine.specs.Slots.{SlotValue}

-- the rows tile the ranges with the minimum size, which is at least one page, and are at most `max`
pub record AreTiled (r : RegionList) : Type 0 where
  pub unit : 1 ≤ r.unit
  pub order : InOrder r.ranges
  pub tiling : Tiling r.unit r.ranges (spans r.rows)
  pub few : length r.rows ≤ r.max

-- a run of pages lies in a row, and has a page
pub record LiesInRow (r : AppliedRun) (s : Span) : Type 0 where
  pub target : r.target ≡ s.target
  pub some : 1 ≤ r.pages
  pub from : s.start ≤ r.start
  pub to : r.start + r.pages ≤ s.start + s.pages

-- a run has a page, and its pages are pages of the space
abbrev pub IsRunIn : List Target → AppliedRun → Type 0
IsRunIn space r = (1 ≤ r.pages) × (r.start + r.pages ≤ pages_of space)

-- no slot, set or not, has a window that begins after this tick
abbrev pub StartBy : ℕ → List SlotValue → Type 0
StartBy tick slots = AllByRecursion (λ s. s.window.start ≤ tick) slots

-- some of the passing pages of a candidate are taken, but not all
abbrev pub IsInPart : Candidate → Type 0
IsInPart c = (0 < c.share) × (c.share < c.passing)

-- at most one of the candidates is taken in part
abbrev pub OneInPart : List Candidate → Type 0
OneInPart cs = AllPairs (λ c d. IsInPart c → IsInPart d → ⊥) cs

-- After t runs the statistics of a set slot, and the pages charged to a slot, are at most t times what one run can add: no run
-- has more rows or pages than a space may have pages.
pub record CountsWithin (t : ℕ) (s : SlotValue) : Type 0 where
  pub tried : IfSome s.set (λ h. h.tried ≤ MAX_PAGES * t)
  pub applied : IfSome s.set (λ h. h.applied ≤ MAX_PAGES * t)
  pub exceeds : IfSome s.set (λ h. h.exceeds ≤ t)
  pub charged : s.window.charged ≤ MAX_PAGES * t
  pub cost : s.cost.pages ≤ MAX_PAGES * t
