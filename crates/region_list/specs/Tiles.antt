-- Rows tile ranges, stated for each page: the promise.
use Rattle.std.specs.Prelude.{◌≡◌, ℕ, ◌+◌, ◌≤◌, ◌<◌, ◌&&◌, ◌==◌, nat_le, nat_lt, List, [], ◌∷◌, count_by, AllPairs, Any, if◌then◌else◌}
use Rattle.std.specs.List.{list_any, AllByRecursion}
use Rattle.damon_types.specs.declared.range.Range.{Range}
use Rattle.damon_types.specs.Ranges.{end_of, holds_page}
use Rattle.damon_types.specs.Span.{Span}

-- the row lies in the range
pub record LiesIn (s : Span) (g : Range) : Type 0 where
  pub target : s.target ≡ g.target
  pub from : g.first ≤ s.start
  pub to : s.start + s.pages ≤ end_of g

-- Each page of a range is held by exactly one row of its target, and any other page by no row. Each row lies in one
-- range and has at least `unit` pages. Starts rise.
pub record Tiles (ranges : List Range) (rows : List Span) (unit : ℕ) : Type 0 where
  pub once :
      (t p : ℕ) → count_by (λ s. (s.target == t) && (nat_le s.start p && nat_lt p (s.start + s.pages))) rows
      ≡ (if list_any (λ g. (g.target == t) && holds_page p g) ranges then 1 else 0)
  pub within : AllByRecursion (λ s. Any (LiesIn s) ranges) rows
  pub size : AllByRecursion (λ s. unit ≤ s.pages) rows
  pub rise : AllPairs (λ s t. s.start < t.start) rows
