-- What a monitor shows after each call that changes it.
use Rattle.std.specs.Prelude.{◌≡◌, ℕ, ◌+◌, Bool, false, List, length, count_by, replicate, slice_set}
use Rattle.std.proofs.Common.{◌∙◌, ap}
use Rattle.damon_types.specs.declared.attrs.Attrs.{Attrs}
use Rattle.damon_types.specs.declared.row.Row.{Row}
use Rattle.damon_types.specs.declared.scheme.Version.{Version}
use Rattle.damon_types.specs.declared.space.Target.{Target}
use Rattle.aggregator.specs.Cleared.{cleared}
use Rattle.aggregator.specs.Threshold.{threshold}
use Rattle.region_split.specs.Split.{split_rows}
use Rattle.live_commit.specs.declared.phase.Phase.{Phase}
use Rattle.live_commit.specs.declared.phase.Phase.TheVariants.{Checking, Idle, Void}
use Rattle.sampler.specs.Counted.{raised}
use Rattle.sampler.specs.Loaded.{loaded_bits}
use Rattle.scheme_engine.specs.Served.{Served, slots_served}
use Rattle.scheme_engine.specs.Slots.{SlotValue}
use Rattle.damon_core.specs.declared.clock.Clock.{Clock}
use Rattle.damon_core.specs.declared.totals.Totals.{Totals}
use Rattle.damon_core.specs.Kept.{SamplingView}
use Rattle.damon_core.specs.Report.{ReportValue}
use Rattle.damon_core.specs.State.{row_count}
use Rattle.damon_core.specs.Event.{load_index}
use Rattle.damon_core.specs.Aggregate.{core_after_aggregation, engine_served, merged_regions}
use Rattle.damon_core.specs.After.{prepared_core, cleared_core, loaded_core, passed_core}
use Rattle.damon_core.specs.Stands.{MonitorView}

-- what a monitor shows by its parts
abbrev pub shown : Version → List Target → Attrs → SamplingView → Clock → Totals → ReportValue → List SlotValue → MonitorView
shown version space attrs sampling clock totals report slots = record {
  core = record {
    version = version;
    space = space;
    attrs = attrs;
    regions = sampling.regions;
    phase = sampling.phase;
    picks = sampling.picks;
    ticks = clock.ticks;
    since = clock.since;
    before = sampling.before;
    report = report;
  };
  bits = sampling.bits;
  checks = totals.checks;
  hits = totals.hits;
  slots = slots;
}

-- new picks, none of them loaded
abbrev pub after_prepare : List ℕ → MonitorView → MonitorView
after_prepare words m = record m { core = prepared_core words m.core; bits = replicate (row_count m.core) false }

-- n picks more are cleared
abbrev pub after_clears : ℕ → MonitorView → MonitorView
after_clears n m = record m { core = cleared_core n m.core }

-- one pick more is loaded, with this result
abbrev pub after_load : Bool → MonitorView → MonitorView
after_load hit m = record m {
  core = loaded_core 1 m.core;
  bits = slice_set m.bits (load_index m.core.phase) hit;
}

-- all picks are loaded, with these results
abbrev pub after_all_loads : List Bool → MonitorView → MonitorView
after_all_loads hits m = record m { core = record m.core { phase = Checking (row_count m.core) }; bits = hits }

-- n picks more are loaded, each with the mark of its page as its result
abbrev pub after_loads : List Bool → ℕ → MonitorView → MonitorView
after_loads marks n m = record m {
  core = loaded_core n m.core;
  bits = loaded_bits marks m.core.picks (load_index m.core.phase) n m.bits;
}

-- the pass is counted
abbrev pub with_counts : MonitorView → MonitorView
with_counts m = record m {
  core = record m.core { regions = record m.core.regions { rows = raised m.bits m.core.regions.rows } };
  checks = m.checks + row_count m.core;
  hits = m.hits + count_by (λ hit. hit) m.bits;
}

-- the pass has ended, and is counted unless it is void
abbrev pub ended : Phase → MonitorView → MonitorView
ended Void m = record m { core = passed_core m.core }
ended phase m = let counted = with_counts m in record counted { core = passed_core counted.core }

-- the pass under way has ended
abbrev pub after_observe : MonitorView → MonitorView
after_observe m = ended m.core.phase m

-- the aggregation that was due is carried out
abbrev pub after_aggregate : List ℕ → MonitorView → MonitorView
after_aggregate words m = record m { core = core_after_aggregation words m.slots m.core; slots = (engine_served m.core m.slots).slots }

-- what is sampled once the slots are served, and once the counts are cleared and random words split the rows
abbrev pub with_rows : List Row → SamplingView → SamplingView
with_rows rows s = record s { regions = record s.regions { rows = rows } }

abbrev pub split_then : List ℕ → SamplingView → SamplingView
split_then ws s = record s {
  regions = record s.regions { rows = split_rows s.regions.max s.regions.unit s.before ws (cleared s.regions.rows) };
  phase = Idle;
  before = length s.regions.rows;
}

-- what serving makes of the report, and the rows that it keeps at last
abbrev pub with_applied : Served → ReportValue → ReportValue
with_applied o r = record r { runs = o.runs; choices = o.choices }

abbrev pub with_kept : ℕ → ℕ → List Row → ReportValue → ReportValue
with_kept tick t rows r = record r { tick = tick; threshold = t; rows = rows }

-- what the slots are served over
abbrev pub serves : List Target → Attrs → Clock → SamplingView → List SlotValue → Served
serves space attrs k s slots = slots_served 0 space attrs.aggr k.ticks s.regions slots

-- the parts of a monitor after each step of an aggregation, together
pub aggregated_view : (version : Version) (space : List Target) (attrs : Attrs) (k : Clock) (totals : Totals) (ws : List ℕ) (s0 s1 s2 s3 : SamplingView) (r0 r1 r2 : ReportValue) (slots0 slots1 : List SlotValue) (t : ℕ)
    → s1 ≡ record s0 { regions = merged_regions (shown version space attrs s0 k totals r0 slots0).core }
    → s2 ≡ with_rows (serves space attrs k s1 slots0).rows s1
    → slots1 ≡ (serves space attrs k s1 slots0).slots
    → r1 ≡ with_applied (serves space attrs k s1 slots0) r0
    → t ≡ threshold s0.regions.rows
    → r2 ≡ with_kept k.ticks t s2.regions.rows r1
    → s3 ≡ split_then ws s2
    → shown version space attrs s3 (record { ticks = k.ticks; since = 0 }) totals r2 slots1 ≡ after_aggregate ws (shown version space attrs s0 k totals r0 slots0)
aggregated_view version space attrs k totals ws s0 s1 s2 s3 r0 r1 r2 slots0 slots1 t e1 e2 eslots er1 et er2 e3 =
    let F : SamplingView → ReportValue → List SlotValue → MonitorView = λ s r slots. shown version space attrs s (record { ticks = k.ticks; since = 0 }) totals r slots in
    ap (λ (s : SamplingView). F s r2 slots1) e3
    ∙ ap (λ (r : ReportValue). F (split_then ws s2) r slots1) er2
    ∙ ap (λ (s : SamplingView). F (split_then ws s) (with_kept k.ticks t s.regions.rows r1) slots1) e2
    ∙ ap (λ (slots : List SlotValue). F (split_then ws (with_rows (serves space attrs k s1 slots0).rows s1)) (with_kept k.ticks t (serves space attrs k s1 slots0).rows r1) slots) eslots
    ∙ ap (λ (r : ReportValue). F (split_then ws (with_rows (serves space attrs k s1 slots0).rows s1)) (with_kept k.ticks t (serves space attrs k s1 slots0).rows r) (serves space attrs k s1 slots0).slots) er1
    ∙ ap (λ (n : ℕ). F (split_then ws (with_rows (serves space attrs k s1 slots0).rows s1)) (with_kept k.ticks n (serves space attrs k s1 slots0).rows (with_applied (serves space attrs k s1 slots0) r0)) (serves space attrs k s1 slots0).slots) et
    ∙ ap (λ (s : SamplingView). F (split_then ws (with_rows (serves space attrs k s slots0).rows s)) (with_kept k.ticks (threshold s0.regions.rows) (serves space attrs k s slots0).rows (with_applied (serves space attrs k s slots0) r0)) (serves space attrs k s slots0).slots) e1
