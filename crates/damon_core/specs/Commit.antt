-- What a commit makes of a state, and its answer.
use Rattle.std.specs.Prelude.{ℕ, Bool, false, not, List, ◌∷◌, length, map, slice_index_or, slice_set, Option, Some, None, Result, Ok, Err, if◌then◌else◌}
use Rattle.std.specs.Option.{option_map_or, unwrap_or}
use Rattle.std.specs.Result.{result_and}
use Rattle.damon_types.specs.declared.range.RangeSpec.{RangeSpec}
use Rattle.damon_types.specs.declared.row.Row.{Row}
use Rattle.damon_types.specs.declared.scheme.CostPart.{CostPart}
use Rattle.damon_types.specs.declared.scheme.SlotChange.{SlotChange}
use Rattle.damon_types.specs.declared.space.Target.{Target}
use Rattle.damon_types.specs.Span.{spans}
use Rattle.target_ranges.specs.Made.{ranges_of}
use Rattle.region_list.specs.Regions.{RegionList}
use Rattle.region_list.specs.Same.{same_spans}
use Rattle.region_list.specs.Shrink.{shrunk}
use Rattle.range_update.specs.Updated.{updated}
use Rattle.live_commit.specs.declared.fault.CommitFault.{CommitFault}
use Rattle.live_commit.specs.declared.phase.Phase.{Phase}
use Rattle.live_commit.specs.declared.phase.Phase.TheVariants.{Armed, Void}
use Rattle.live_commit.specs.declared.view.View.{View}
use Rattle.live_commit.specs.Accepts.{checked_commit}
use Rattle.live_commit.specs.Commit.{CommitValue}
use Rattle.scheme_engine.specs.Slots.{SlotValue, changed, costed, empty_slot, metered}
use Rattle.damon_core.specs.declared.changed.Changed.{Changed}
use Rattle.damon_core.specs.Note.{Note, set, dropped, metric, cost}
use Rattle.damon_core.specs.State.{Core, State, row_count}

-- what a commit is checked against
abbrev pub view_of : Core → View
view_of c = record {
  version = c.version;
  phase = c.phase;
  rows = row_count c;
  ranges = length c.regions.ranges;
  unit = c.regions.unit;
  cap = c.regions.cap;
  max = c.attrs.max;
}

-- the first check of a commit that fails
abbrev pub check_of : CommitValue → Core → Result (Unit {0}) CommitFault
check_of parts c = checked_commit c.space (view_of c) parts

-- the regions after a commit: the rows of the new ranges; without new ranges, the rows shrunk to the maximum
abbrev pub regions_after : List Target → Option (List RangeSpec) → ℕ → RegionList → RegionList
regions_after space None max r = record r { rows = shrunk r.ranges max r.rows; max = max }
regions_after space (Some specs) max r =
    let ranges = ranges_of space specs in
    record r { ranges = ranges; rows = updated r.unit max r.rows ranges; max = max }

-- whether a commit makes the pass under way void: its picks are cleared, and the rows do not lie where they did
abbrev pub becomes_void : Phase → List Row → List Row → Bool
becomes_void Armed old new = not (same_spans (spans old) (spans new))
becomes_void _ old new = false

-- the phase after a commit
abbrev pub phase_after_commit : Phase → List Row → List Row → Phase
phase_after_commit phase old new = if becomes_void phase old new then Void else phase

-- What a monitor shows after a commit that is accepted: the attributes take effect first, and then the ranges, or the
-- rows are shrunk.
abbrev pub committed_core : CommitValue → Core → Core
committed_core parts c =
    let attrs = unwrap_or parts.attrs c.attrs in
    let regions = regions_after c.space parts.ranges attrs.max c.regions in
    record c { attrs = attrs; regions = regions; phase = phase_after_commit c.phase c.regions.rows regions.rows }

-- the notes after a commit that is accepted: first the slot change, then the metric, then the cost
abbrev pub committed_notes : CommitValue → List Note → List Note
committed_notes parts notes =
    let slot_set = option_map_or (λ change. option_map_or (set change.slot) change.scheme (dropped change.slot) ∷ notes) parts.slot notes in
    let measured = option_map_or (λ value. metric value ∷ slot_set) parts.metric slot_set in
    option_map_or (λ part. cost part.slot part.nanos ∷ measured) parts.cost measured

-- the state after a commit that is accepted
abbrev pub committed : CommitValue → State → State
committed parts s = record { core = committed_core parts s.core; notes = committed_notes parts s.notes }

-- what a check leaves: the new value where no check fails, and the old one where one does
abbrev pub if_accepted : {T : Type 0} → Result (Unit {0}) CommitFault → T → T → T
if_accepted (Ok t) new old = new
if_accepted (Err fault) new old = old

-- what a monitor shows after a commit; one that is refused changes nothing
abbrev pub core_after_commit : CommitValue → Core → Core
core_after_commit parts c = if_accepted (check_of parts c) (committed_core parts c) c

-- what a commit that is accepted did
abbrev pub changed_by : CommitValue → Core → Changed
changed_by parts c =
    let new = committed_core parts c in
    record { rows = row_count new; void = becomes_void c.phase c.regions.rows new.regions.rows }

-- the answer of a commit: what it did, or the first check that fails
abbrev pub commit_answer : CommitValue → Core → Result Changed CommitFault
commit_answer parts c = result_and (check_of parts c) (Ok (changed_by parts c))

-- the slots after a slot change: it sets or drops its slot
abbrev pub slots_changed : Option SlotChange → List SlotValue → List SlotValue
slots_changed None slots = slots
slots_changed (Some change) slots = slice_set slots change.slot (changed change.scheme (slice_index_or slots change.slot empty_slot))

-- the slots after a metric, which every set slot sees
abbrev pub slots_metered : Option ℕ → List SlotValue → List SlotValue
slots_metered None slots = slots
slots_metered (Some value) slots = map (metered value) slots

-- the slots after a cost, which is added to that of its slot, set or not
abbrev pub slots_costed : Option CostPart → List SlotValue → List SlotValue
slots_costed None slots = slots
slots_costed (Some part) slots = slice_set slots part.slot (costed part.nanos (slice_index_or slots part.slot empty_slot))

-- the slots of a monitor after a commit that is accepted
abbrev pub committed_slots : CommitValue → List SlotValue → List SlotValue
committed_slots parts slots = slots_costed parts.cost (slots_metered parts.metric (slots_changed parts.slot slots))

-- the slots of a monitor after a commit; one that is refused changes nothing
abbrev pub slots_after_commit : CommitValue → Core → List SlotValue → List SlotValue
slots_after_commit parts c slots = if_accepted (check_of parts c) (committed_slots parts slots) slots
