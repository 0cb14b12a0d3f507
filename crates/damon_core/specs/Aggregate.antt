-- What an aggregation makes of the rows.
use Rattle.std.specs.Prelude.{◌≡◌, ℕ, ◌/◌, max, List, length}
use Rattle.damon_types.specs.declared.row.Row.{Row}
use Rattle.damon_types.specs.Ranges.{page_total}
use Rattle.live_commit.specs.declared.phase.Phase.TheVariants.{Idle}
use Rattle.aggregator.specs.Threshold.{threshold}
use Rattle.aggregator.specs.Aged.{aged}
use Rattle.aggregator.specs.Cleared.{cleared}
use Rattle.region_merge.specs.Merged.{merged}
use Rattle.region_split.specs.Split.{split_rows}
use Rattle.region_list.specs.Regions.{RegionList}
use Rattle.scheme_engine.specs.declared.applied.AppliedRun.{AppliedRun}
use Rattle.scheme_engine.specs.declared.applied.SlotChoice.{SlotChoice}
use Rattle.scheme_engine.specs.Served.{Served, slots_served}
use Rattle.scheme_engine.specs.Slots.{SlotValue}
use Rattle.damon_core.specs.Serve.{Serving, serve_slots}
use Rattle.damon_core.specs.Slots.{slot_count, slots_of}
use Rattle.damon_core.specs.State.{Core, State}

-- the most pages of a merged row: what each of `min` rows of equal size would have, and at least `unit`
abbrev pub merge_limit : Core → ℕ
merge_limit c = max c.regions.unit (page_total c.regions.ranges / c.attrs.min)

-- the regions as schemes find them: aged, and then merged
abbrev pub merged_regions : Core → RegionList
merged_regions c =
    let t = threshold c.regions.rows in
    record c.regions { rows = merged c.regions.ranges t (merge_limit c) (aged t c.version c.regions.rows) }

-- What a monitor shows after an aggregation that reports these rows, runs and choices: the counts are cleared, and random words
-- split the rows. `before` is the number of rows at the start of this split.
abbrev pub aggregated_core : List ℕ → List Row → List AppliedRun → List SlotChoice → Core → Core
aggregated_core words rows runs choices c = record c {
  regions = record c.regions { rows = split_rows c.regions.max c.regions.unit c.before words (cleared rows) };
  phase = Idle;
  since = 0;
  before = length rows;
  report = record { tick = c.ticks; threshold = threshold c.regions.rows; rows = rows; runs = runs; choices = choices };
}

-- what serving all slots in an aggregation makes of the rows and the notes of a state
abbrev pub served : State → Serving
served s = serve_slots slot_count 0 s.core.space s.core.attrs.aggr s.core.ticks (merged_regions s.core) s.notes

-- the state after an aggregation
abbrev pub aggregated : List ℕ → State → State
aggregated words s =
    let o = served s in
    record { core = aggregated_core words o.rows o.runs o.choices s.core; notes = o.notes }

-- what serving all slots in an aggregation makes of the rows and the slots of a monitor
abbrev pub engine_served : Core → List SlotValue → Served
engine_served c slots = slots_served 0 c.space c.attrs.aggr c.ticks (merged_regions c) slots

-- Serving the slots that the notes of a state tell of gives what serving by the notes gives: the rows, the runs and the choices, and
-- the slots that the notes then tell of.
pub record IsServedAlike (s : State) : Type 0 where
  pub slots : (engine_served s.core (slots_of s.notes)).slots ≡ slots_of (served s).notes
  pub rows : (engine_served s.core (slots_of s.notes)).rows ≡ (served s).rows
  pub runs : (engine_served s.core (slots_of s.notes)).runs ≡ (served s).runs
  pub choices : (engine_served s.core (slots_of s.notes)).choices ≡ (served s).choices

-- what a monitor with these slots shows after an aggregation
abbrev pub core_after_aggregation : List ℕ → List SlotValue → Core → Core
core_after_aggregation words slots c =
    let o = engine_served c slots in
    aggregated_core words o.rows o.runs o.choices c
