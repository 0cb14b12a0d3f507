-- What serving slots changes.
use Rattle.std.specs.Prelude.{ℕ, ◌+◌, Bool, true, false, List, [], ◌∷◌, ◌++◌, Option, Some, None, if◌then◌else◌}
use Rattle.std.specs.Option.{option_map}
use Rattle.damon_types.specs.declared.row.Row.{Row}
use Rattle.damon_types.specs.declared.space.Target.{Target}
use Rattle.region_list.specs.Regions.{RegionList}
use Rattle.quota_charge.specs.Quota.{left_of}
use Rattle.scheme_engine.specs.declared.applied.AppliedRun.{AppliedRun}
use Rattle.scheme_engine.specs.declared.applied.SlotChoice.{SlotChoice}
use Rattle.scheme_engine.specs.Outcome.{Outcome, outcome_of}
use Rattle.scheme_engine.specs.Slots.{SetScheme, SlotValue, quota_of, turned_slot}

-- a slot that was served, the rows after it, the runs that its scheme was applied to, and its choice if it is set
pub record ServedSlot : Type 0 where
  pub slot : SlotValue
  pub rows : List Row
  pub runs : List AppliedRun
  pub choices : List SlotChoice

-- the choice of a slot that is not active
abbrev pub no_choice : ℕ → SlotChoice
no_choice slot = record { slot = slot; active = false; left = None; taken = 0; lowest = None }

-- the choice of an active slot
abbrev pub choice_of : ℕ → Option ℕ → Outcome → SlotChoice
choice_of slot left o = record { slot = slot; active = true; left = left; taken = o.taken; lowest = o.lowest }

-- the statistics of a scheme after a run
abbrev pub scheme_counted : ℕ → ℕ → Bool → SetScheme → SetScheme
scheme_counted tried taken exceeds h = record h { tried = h.tried + tried; applied = h.applied + taken; exceeds = h.exceeds + (if exceeds then 1 else 0) }

-- A slot after a run of its scheme: its statistics grow, and the pages that were taken are charged to it.
abbrev pub slot_counted : ℕ → ℕ → Bool → SlotValue → SlotValue
slot_counted tried taken exceeds s = record {
  set = option_map (scheme_counted tried taken exceeds) s.set;
  window = record s.window { charged = s.window.charged + taken };
  cost = record s.cost { pages = s.cost.pages + taken };
}

-- a slot whose scheme is run, where `left` is what is left of its quota
abbrev pub slot_run : ℕ → Option ℕ → SlotValue → Outcome → ServedSlot
slot_run slot left s o = record { slot = slot_counted o.tried o.taken o.exceeds s; rows = o.rows; runs = o.runs; choices = choice_of slot left o ∷ [] }

-- what is left of the quota of a slot, if it has one
abbrev pub left_in : SlotValue → Option ℕ
left_in s = left_of (quota_of s) s.cost s.window.charged

-- a slot with this scheme, if any, that is served: an active one runs its scheme
abbrev pub scheme_served : ℕ → List Target → ℕ → RegionList → SlotValue → Option SetScheme → ServedSlot
scheme_served slot space aggr regions s None = record { slot = s; rows = regions.rows; runs = []; choices = [] }
scheme_served slot space aggr regions s (Some h) =
    if h.gauge.active then slot_run slot (left_in s) s (outcome_of slot space aggr h.scheme (left_in s) regions)
    else record { slot = s; rows = regions.rows; runs = []; choices = no_choice slot ∷ [] }

-- a slot that is served: its window may begin anew, and then its scheme is served
abbrev pub slot_served : ℕ → List Target → ℕ → ℕ → RegionList → SlotValue → ServedSlot
slot_served slot space aggr tick regions s = scheme_served slot space aggr regions (turned_slot tick s) s.set

-- slots that were served, the rows after them, the runs that were applied in order, and the choices of the set slots
pub record Served : Type 0 where
  pub slots : List SlotValue
  pub rows : List Row
  pub runs : List AppliedRun
  pub choices : List SlotChoice

-- slots that are served in order, the first of which has this number
abbrev pub slots_served : ℕ → List Target → ℕ → ℕ → RegionList → List SlotValue → Served
slots_served slot space aggr tick regions [] = record { slots = []; rows = regions.rows; runs = []; choices = [] }
slots_served slot space aggr tick regions (s ∷ ss) =
    let first = slot_served slot space aggr tick regions s in
    let others = slots_served (slot + 1) space aggr tick (record regions { rows = first.rows }) ss in
    record { slots = first.slot ∷ others.slots; rows = others.rows; runs = first.runs ++ others.runs; choices = first.choices ++ others.choices }
