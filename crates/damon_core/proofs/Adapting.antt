-- The rows as an aggregation merges and serves them, and those that it leaves, tile their ranges within the limits.
use Rattle.std.proofs.Common.{◌≡◌, ℕ, ◌≤◌, ◌<◌, List, length, sym, ap, ◌∙◌, subst, arith}
use Rattle.std.specs.List.{AllByRecursion}
use Rattle.damon_types.specs.declared.row.Row.{Row}
use Rattle.damon_types.specs.Ranges.{InOrder}
use Rattle.damon_types.specs.Span.{spans}
use Rattle.region_list.specs.Tiling.{Tiling}
use Rattle.aggregator.specs.Aged.{aged}
use Rattle.aggregator.specs.Cleared.{cleared}
use Rattle.aggregator.specs.Threshold.{threshold}
use Rattle.region_merge.specs.Merged.{merged}
use Rattle.region_split.specs.Split.{split_rows}
use Rattle.region_list.specs.Regions.{RegionList}
use Rattle.scheme_engine.specs.Kept.{AreTiled}
use Rattle.aggregator.proofs.Lemmas.{counts_cleared, length_aged, length_cleared, spans_aged, spans_cleared}
use Rattle.region_merge.proofs.Lemmas.{length_merged, some_merged, tiling_merged}
use Rattle.region_split.proofs.Lemmas.{counts_split, length_split, some_split, tiling_split}
use Rattle.scheme_engine.proofs.Lemmas.{outcome_some, outcome_tiled}
use Rattle.damon_core.specs.Slots.{slot_count}
use Rattle.damon_core.specs.State.{Core, State}
use Rattle.damon_core.specs.Aggregate.{merge_limit, merged_regions, served}
use Rattle.damon_core.proofs.Served.{serve_rows_hold}

-- rows within the limits of a monitor
pub record AreRowsOf (c : Core) (rows : List Row) : Type 0 where
  pub tiling : Tiling c.regions.unit c.regions.ranges (spans rows)
  pub some : 0 < length rows
  pub few : length rows ≤ c.regions.max

-- the rows once they are merged
pub merged_kept : (c : Core) → 1 ≤ c.regions.unit → InOrder c.regions.ranges → AreRowsOf c c.regions.rows → AreRowsOf c (merged_regions c).rows
merged_kept c wide order kept =
    let rows = c.regions.rows in
    let t = threshold rows in
    let same = length_aged t c.version rows in
    record {
      tiling = tiling_merged c.regions.unit c.regions.ranges t (merge_limit c) (aged t c.version rows) wide order (subst (Tiling c.regions.unit c.regions.ranges) (sym (spans_aged t c.version rows)) kept.tiling);
      some = some_merged c.regions.ranges t (merge_limit c) (aged t c.version rows) (omega (arith, same, kept.some));
      few = omega (arith, length_merged c.regions.ranges t (merge_limit c) (aged t c.version rows), same, kept.few);
    }

-- the regions as schemes find them
pub merged_tiled : (c : Core) → 1 ≤ c.regions.unit → InOrder c.regions.ranges → AreRowsOf c c.regions.rows → AreTiled (merged_regions c)
merged_tiled c wide order kept =
    let merged = merged_kept c wide order kept in
    record { unit = wide; order = order; tiling = merged.tiling; few = merged.few }

-- the rows once the slots are served
pub served_kept : (s : State) → 1 ≤ s.core.regions.unit → InOrder s.core.regions.ranges → AreRowsOf s.core s.core.regions.rows → AreRowsOf s.core (served s).rows
served_kept s wide order kept =
    let merged = merged_kept s.core wide order kept in
    let tiled = serve_rows_hold AreTiled outcome_tiled slot_count 0 s.core.space s.core.attrs.aggr s.core.ticks (merged_regions s.core) s.notes (merged_tiled s.core wide order kept) in
    record {
      tiling = tiled.tiling;
      some = serve_rows_hold (λ (r : RegionList). 0 < length r.rows) outcome_some slot_count 0 s.core.space s.core.attrs.aggr s.core.ticks (merged_regions s.core) s.notes merged.some;
      few = tiled.few;
    }

-- rows after the counts are cleared and random words split them
pub split_kept : (ws : List ℕ) (c : Core) (rows : List Row) → AreRowsOf c rows → AreRowsOf c (split_rows c.regions.max c.regions.unit c.before ws (cleared rows))
split_kept ws c rows kept =
    let same = length_cleared rows in
    record {
      tiling = tiling_split c.regions.max c.regions.unit c.before ws c.regions.ranges (cleared rows) (subst (Tiling c.regions.unit c.regions.ranges) (sym (spans_cleared rows)) kept.tiling);
      some = some_split c.regions.max c.regions.unit c.before ws (cleared rows) (omega (arith, same, kept.some));
      few = length_split c.regions.max c.regions.unit c.before ws (cleared rows) (omega (arith, same, kept.few));
    }

-- the regions that are merged with the threshold and the limit of a monitor
pub merged_is : (c : Core) (new : RegionList) (t limit : ℕ) → new ≡ record c.regions { rows = merged c.regions.ranges t limit (aged t c.version c.regions.rows) } → t ≡ threshold c.regions.rows → limit ≡ merge_limit c → new ≡ merged_regions c
merged_is c new t limit is thr lim =
    is
    ∙ ap (λ n. record c.regions { rows = merged c.regions.ranges t n (aged t c.version c.regions.rows) }) lim
    ∙ ap (λ x. record c.regions { rows = merged c.regions.ranges x (merge_limit c) (aged x c.version c.regions.rows) }) thr

-- what a list says of its rows
pub tiled_by_len : (r : RegionList) (count : ℕ) → count ≡ length r.rows → count ≤ r.max → 1 ≤ r.unit → InOrder r.ranges → Tiling r.unit r.ranges (spans r.rows) → AreTiled r
tiled_by_len r count len few unit order tiling = record { unit = unit; order = order; tiling = tiling; few = omega (arith, len, few) }

-- rows whose counts are cleared have none after a split
pub no_counts_split : (max unit before : ℕ) (words : List ℕ) (rows : List Row) → AllByRecursion (λ r. r.count ≤ 0) (split_rows max unit before words (cleared rows))
no_counts_split max unit before words rows = counts_split max unit before 0 words (cleared rows) (counts_cleared rows)

-- what a split asks of rows whose counts are cleared, and leaves of them
pub ruleset rows_split = (length_cleared, some_split, no_counts_split)
