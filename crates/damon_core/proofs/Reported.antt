-- The rows that are reported: they tile ranges of the space, and their counts are bounded.
use Rattle.std.proofs.Common.{◌≡◌, ℕ, ◌+◌, ◌==◌, ◌≤◌, ◌<◌, true, false, cond, List, [], ◌∷◌, ◌++◌, Ok, Option, Some, None, refl, sym, ap, ◌∙◌, subst, arith}
use Rattle.std.specs.Prelude.{sum_by}
use Rattle.std.specs.List.{AllByRecursion}
use Rattle.std.specs.Option.{unwrap_or}
use Rattle.std.proofs.lemmas.List.Sums.{sum_by-append, sum_by-cons}
use Rattle.std.proofs.lemmas.List.Elements.{All-from_recursion}
use Rattle.damon_types.specs.declared.attrs.TheConstants.{MAX_AGGR}
use Rattle.damon_types.specs.declared.range.Range.{Range}
use Rattle.damon_types.specs.declared.range.RangeSpec.{RangeSpec}
use Rattle.damon_types.specs.declared.row.Row.{Row}
use Rattle.damon_types.specs.declared.space.Target.{Target}
use Rattle.damon_types.specs.Ranges.{end_of, page_total}
use Rattle.damon_types.specs.RowPages.{row_pages}
use Rattle.damon_types.specs.Span.{Span, span_of, spans}
use Rattle.damon_types.specs.Within.{AreWithin, LiesInTarget}
use Rattle.region_list.specs.Division.{divided}
use Rattle.region_list.specs.Regions.{RegionList}
use Rattle.region_list.specs.Tiling.{Chain, Tiling}
use Rattle.aggregator.specs.Aged.{aged}
use Rattle.aggregator.specs.Cleared.{cleared}
use Rattle.aggregator.specs.Threshold.{threshold}
use Rattle.live_commit.specs.declared.phase.Phase.{Phase}
use Rattle.live_commit.specs.declared.phase.Phase.TheVariants.{Armed, Clearing, Due}
use Rattle.live_commit.specs.Commit.{CommitValue}
use Rattle.live_commit.specs.Setup.{SetupValue}
use Rattle.aggregator.proofs.Lemmas.{counts_aged, counts_cleared}
use Rattle.region_list.proofs.Lemmas.{counts_shrunk}
use Rattle.region_merge.proofs.Lemmas.{counts_merged}
use Rattle.region_split.proofs.Lemmas.{counts_split}
use Rattle.scheme_engine.proofs.Lemmas.{outcome_counts}
use Rattle.target_ranges.proofs.Lemmas.{made_within}
use Rattle.damon_core.specs.After.{counted_from, phase_cleared}
use Rattle.damon_core.specs.Aggregate.{aggregated, merge_limit, merged_regions, served}
use Rattle.damon_core.specs.Commit.{check_of, committed, regions_after}
use Rattle.damon_core.specs.Kept.{CanCommit, SinceFew}
use Rattle.damon_core.specs.Note.{Note, was_hit}
use Rattle.damon_core.specs.Reached.{CanOpen, Reached}
use Rattle.damon_core.specs.Report.{ReportValue}
use Rattle.damon_core.specs.Reported.{IsReported}
use Rattle.damon_core.specs.Slots.{slot_count}
use Rattle.damon_core.specs.State.{Core, State, opening, row_count}
use Rattle.damon_core.proofs.Adapting.{served_kept}
use Rattle.damon_core.proofs.Between.{since-phase_after_pass}
use Rattle.damon_core.proofs.Committing.{commit_facts, new_counts, since_kept}
use Rattle.damon_core.proofs.Keeping.{Keeps, any_result, reached_keeps}
use Rattle.damon_core.proofs.RowFacts.{counts-divided, one_more, weaker}
use Rattle.damon_core.proofs.Rows.{HasRows, rows_kept, rows_of}
use Rattle.damon_core.proofs.Running.{load_since}
use Rattle.damon_core.proofs.Served.{serve_rows_hold}

-- what is kept of the rows, of what they count, and of those that were reported
record HasReport (s : State) : Type 0 where
  pub rows : HasRows s
  pub within : AreWithin s.core.space s.core.regions.ranges
  pub since : SinceFew s.core.phase s.core.since
  pub counts : AllByRecursion (λ r. r.count ≤ s.core.since) s.core.regions.rows
  pub reported : IsReported s.core

-- what was reported stays so while the space and the report do
still_reported : (c new : Core) → new.space ≡ c.space → new.report ≡ c.report → 1 ≤ new.attrs.aggr → IsReported c → IsReported new
still_reported c new space report aggr is = record {
  ranges = is.ranges;
  unit = is.unit;
  wide = is.wide;
  order = is.order;
  within = subst (λ ts. AreWithin ts is.ranges) (sym space) is.within;
  tiles = subst (λ (x : ReportValue). Tiling is.unit is.ranges (spans x.rows)) (sym report) is.tiles;
  counts = subst (λ (x : ReportValue). AllByRecursion (λ r. r.count ≤ MAX_AGGR) x.rows) (sym report) is.counts;
  aggr = aggr;
}

-- the passes since the last aggregation, once a pick is cleared
since_after_clear : (k rows since : ℕ) → since < 1000 → SinceFew (phase_cleared k rows) since
since_after_clear k rows since few = elim (k == rows) as (λ b. SinceFew (cond b Armed (Clearing k)) since) [ true ↦ few | false ↦ few ]

-- a pass that counts raises a count by one at most
counts-counted_from : (since k : ℕ) (notes : List Note) (pass : ℕ) (rows : List Row) → AllByRecursion (λ r. r.count ≤ since) rows → AllByRecursion (λ r. r.count ≤ since + 1) (counted_from k notes pass rows)
counts-counted_from since k notes pass [] all = tt
counts-counted_from since k notes pass (r ∷ rows) all = (one_more (was_hit notes pass k) r.count since all.0, counts-counted_from since (k + 1) notes pass rows all.1)

-- a bound of the counts holds of the rows once the slots are served
counts-served : (most : ℕ) (s : State) → AllByRecursion (λ r. r.count ≤ most) s.core.regions.rows → AllByRecursion (λ r. r.count ≤ most) (served s).rows
counts-served most s all =
    let c = s.core in
    let t = threshold c.regions.rows in
    let merged_all = counts_merged c.regions.ranges t (merge_limit c) most (aged t c.version c.regions.rows) (counts_aged t most c.version c.regions.rows all) in
    serve_rows_hold (λ (r : RegionList). AllByRecursion (λ q. q.count ≤ most) r.rows) (λ slot aggr space scheme left r held. outcome_counts slot aggr most space scheme left r held) slot_count 0 c.space c.attrs.aggr c.ticks (merged_regions c) s.notes merged_all

-- the ranges after a commit lie in the space
within_after_commit : (space : List Target) (new : Option (List RangeSpec)) (most : ℕ) (r : RegionList) → CanCommit space r new most → AreWithin space r.ranges → AreWithin space (regions_after space new most r).ranges
within_after_commit space None most r can was = was
within_after_commit space (Some specs) most r can was = made_within space r.unit r.cap specs (can.specs specs refl).1

report_opens : (v : SetupValue) → CanOpen v → HasReport (opening v)
report_opens v can =
    let parts = divided v.unit v.attrs.min v.ranges in
    record {
      rows = (rows_kept any_result).opens v can;
      within = can.sound.within;
      since = omega arith;
      counts = counts_shrunk v.attrs.max 0 v.ranges parts (counts-divided v.unit v.attrs.min v.ranges);
      reported = record {
        ranges = [];
        unit = 1;
        wide = omega arith;
        order = tt;
        within = All-from_recursion (LiesInTarget v.space) [] tt;
        tiles = refl;
        counts = tt;
        aggr = can.sound.attrs.aggr_some;
      };
    }

-- An aggregation reports rows that tile the ranges of the state. None counts more passes than there were since the last one.
report_aggregates : (s : State) (ws : List ℕ) → s.core.phase ≡ Due → HasReport s → HasReport (aggregated ws s)
report_aggregates s ws due h =
    let c = s.core in
    let since : (1 ≤ c.since) × (c.since ≤ 1000) = subst (λ (ph : Phase). SinceFew ph c.since) due h.since in
    let kept = served_kept s h.rows.wide h.rows.order (rows_of s h.rows) in
    let rows = (served s).rows in
    record {
      rows = (rows_kept any_result).aggregating s ws due h.rows;
      within = h.within;
      since = omega arith;
      counts = counts_split c.regions.max c.regions.unit c.before 0 ws (cleared rows) (counts_cleared rows);
      reported = record {
        ranges = c.regions.ranges;
        unit = c.regions.unit;
        wide = h.rows.wide;
        order = h.rows.order;
        within = h.within;
        tiles = kept.tiling;
        counts = weaker c.since MAX_AGGR since.1 rows (counts-served c.since s h.counts);
        aggr = h.rows.attrs.aggr_some;
      };
    }

report_commits : (s : State) (v : CommitValue) → check_of v s.core ≡ Ok tt → HasReport s → HasReport (committed v s)
report_commits s v ok h =
    let c = s.core in
    let facts = commit_facts c v ok h.rows.attrs h.rows.most in
    let now = unwrap_or v.attrs c.attrs in
    let new = regions_after c.space v.ranges now.max c.regions in
    record {
      rows = (rows_kept any_result).committing s v ok h.rows;
      within = within_after_commit c.space v.ranges now.max c.regions facts.can h.within;
      since = since_kept c.phase c.regions.rows new.rows c.since facts.allows h.since;
      counts = new_counts c.space v.ranges now.max c.since c.regions h.counts;
      reported = still_reported c (committed v s).core refl refl facts.attrs.aggr_some h.reported;
    }

-- each step keeps it
report_kept : Keeps any_result HasReport
report_kept = let rows = rows_kept any_result in record {
  opens = report_opens;
  touching = λ s p h. record { rows = rows.touching s p h.rows; within = h.within; since = h.since; counts = h.counts; reported = h.reported };
  preparing = λ s ws idle count h. record {
    rows = rows.preparing s ws idle count h.rows;
    within = h.within;
    since = subst (λ (ph : Phase). SinceFew ph s.core.since) idle h.since;
    counts = h.counts;
    reported = still_reported s.core _ refl refl h.rows.attrs.aggr_some h.reported;
  };
  clearing = λ s k is h. record {
    rows = rows.clearing s k is h.rows;
    within = h.within;
    since = since_after_clear (k + 1) (row_count s.core) s.core.since (subst (λ (ph : Phase). SinceFew ph s.core.since) is h.since);
    counts = h.counts;
    reported = still_reported s.core _ refl refl h.rows.attrs.aggr_some h.reported;
  };
  loading = λ s k hit fits is known h. record {
    rows = rows.loading s k hit fits is known h.rows;
    within = h.within;
    since = load_since s.core.phase (row_count s.core) s.core.since fits h.since;
    counts = h.counts;
    reported = still_reported s.core _ refl refl h.rows.attrs.aggr_some h.reported;
  };
  finishing = λ s is h.
      (let since : s.core.since < 1000 = subst (λ (ph : Phase). SinceFew ph s.core.since) is h.since in
      record {
        rows = rows.finishing s is h.rows;
        within = h.within;
        since = since-phase_after_pass (s.core.since + 1) s.core.attrs.aggr (omega arith) h.rows.attrs.aggr_most (omega arith);
        counts = counts-counted_from s.core.since 0 s.notes (s.core.ticks + 1) s.core.regions.rows h.counts;
        reported = still_reported s.core _ refl refl h.rows.attrs.aggr_some h.reported;
      });
  voiding = λ s is h.
      (let since : s.core.since < 1000 = subst (λ (ph : Phase). SinceFew ph s.core.since) is h.since in
      record {
        rows = rows.voiding s is h.rows;
        within = h.within;
        since = since-phase_after_pass (s.core.since + 1) s.core.attrs.aggr (omega arith) h.rows.attrs.aggr_most (omega arith);
        counts = weaker s.core.since (s.core.since + 1) (omega arith) s.core.regions.rows h.counts;
        reported = still_reported s.core _ refl refl h.rows.attrs.aggr_some h.reported;
      });
  aggregating = report_aggregates;
  committing = report_commits;
}

pub reached_reported : (s : State) → Reached s → IsReported s.core
reached_reported s reached = (reached_keeps HasReport report_kept s reached).reported

-- ---- the pages of a report

chain_total : (unit t from to : ℕ) (ss : List Span) → Chain unit t from to ss → from + sum_by (λ s. s.pages) ss ≡ to
chain_total unit t from to [] is = omega (arith, is)
chain_total unit t from to (s ∷ ss) is = omega (arith, sum_by-cons (λ (x : Span). x.pages) s ss, chain_total unit t (from + s.pages) to ss is.3)

tiles_total : (unit : ℕ) (gs : List Range) (ss : List Span) → Tiling unit gs ss → sum_by (λ s. s.pages) ss ≡ page_total gs
tiles_total unit [] ss is = ap (λ l. sum_by (λ (s : Span). s.pages) l) is
tiles_total unit (g ∷ gs) ss is =
    let front = is.0 in
    let back = is.1 in
    let split : sum_by (λ (s : Span). s.pages) ss ≡ sum_by (λ (s : Span). s.pages) (front ++ back) = ap (λ l. sum_by (λ (s : Span). s.pages) l) is.2 in
    omega (arith, split, sum_by-append (λ (s : Span). s.pages) front back, chain_total unit g.target g.first (end_of g) front is.3, tiles_total unit gs back is.4, sum_by-cons (λ (h : Range). h.pages) g gs)

row_total : (rows : List Row) → row_pages rows ≡ sum_by (λ s. s.pages) (spans rows)
row_total [] = refl
row_total (r ∷ rows) = omega (arith, sum_by-cons (λ (x : Row). x.pages) r rows, sum_by-cons (λ (s : Span). s.pages) (span_of r) (spans rows), row_total rows)

-- an aggregation reports all pages of the ranges
pub reports_all : (s : State) (ws : List ℕ) → Reached s → s.core.phase ≡ Due → row_pages (aggregated ws s).core.report.rows ≡ page_total s.core.regions.ranges
reports_all s ws reached due =
    let h = reached_keeps HasReport report_kept s reached in
    let kept = served_kept s h.rows.wide h.rows.order (rows_of s h.rows) in
    row_total (served s).rows ∙ tiles_total s.core.regions.unit s.core.regions.ranges (spans (served s).rows) kept.tiling
