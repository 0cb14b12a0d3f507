-- What holds of the rows that were reported.
use Rattle.std.specs.Prelude.{◌≡◌, ℕ, ◌≤◌, List}
use Rattle.std.specs.List.{AllByRecursion}
use Rattle.damon_types.specs.declared.attrs.TheConstants.{MAX_AGGR}
use Rattle.damon_types.specs.declared.range.Range.{Range}
use Rattle.damon_types.specs.RowPages.{row_pages}
use Rattle.damon_types.specs.Ranges.{InOrder, page_total}
use Rattle.damon_types.specs.Span.{spans}
use Rattle.damon_types.specs.Within.{AreWithin}
use Rattle.region_list.specs.Tiling.{Tiling}
use Rattle.live_commit.specs.declared.phase.Phase.TheVariants.{Due}
use Rattle.damon_core.specs.After.{after}
use Rattle.damon_core.specs.Event.{aggregate}
use Rattle.damon_core.specs.Reached.{Reached}
use Rattle.damon_core.specs.State.{Core, State}

-- The rows that the last aggregation reported tile ranges of the space, which are in order, with at least `unit` pages each; none
-- of their counts is above the most passes of an aggregation, and an aggregation has a pass. Before the first aggregation there are
-- neither rows nor ranges.
pub record IsReported (c : Core) : Type 0 where
  pub ranges : List Range
  pub unit : ℕ
  pub wide : 1 ≤ unit
  pub order : InOrder ranges
  pub within : AreWithin c.space ranges
  pub tiles : Tiling unit ranges (spans c.report.rows)
  pub counts : AllByRecursion (λ r. r.count ≤ MAX_AGGR) c.report.rows
  pub aggr : 1 ≤ c.attrs.aggr

-- the rows that an aggregation reports have all pages of the ranges
abbrev pub ReportsAllPages : Type 0
ReportsAllPages =
    (s : State) (words : List ℕ) → Reached s → s.core.phase ≡ Due
    → row_pages (after s (aggregate words)).core.report.rows ≡ page_total s.core.regions.ranges
