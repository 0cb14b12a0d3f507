-- What the notes say of a slot: its scheme, whether it is active, its window, its cost, and what its scheme has done.
use Rattle.std.specs.Prelude.{ℕ, ◌+◌, ◌-◌, ◌^◌, min, Bool, false, ◌==◌, List, [], ◌∷◌, ◌++◌, map, sum_by, Option, Some, None, if◌then◌else◌, cond}
use Rattle.std.specs.List.{range_with_len}
use Rattle.std.specs.Option.{option_map}
use Rattle.damon_types.specs.declared.scheme.Scheme.{Scheme}
use Rattle.quota_charge.specs.declared.cost.Cost.{Cost}
use Rattle.watermarks.specs.Active.{is_active}
use Rattle.scheme_engine.specs.declared.applied.AppliedRun.{AppliedRun}
use Rattle.scheme_engine.specs.declared.slot.TheConstants.{SLOTS}
use Rattle.scheme_engine.specs.Slots.{SetScheme, SlotValue}
use Rattle.damon_core.specs.Note.{Note, set, dropped, metric, turned, ran, cost}

-- the scheme of a slot: the one to which it was set last, unless it was dropped since
abbrev pub scheme_of : List Note → ℕ → Option Scheme
scheme_of [] slot = None
scheme_of (set i scheme ∷ earlier) slot = if i == slot then Some scheme else scheme_of earlier slot
scheme_of (dropped i ∷ earlier) slot = if i == slot then None else scheme_of earlier slot
scheme_of (_ ∷ earlier) slot = scheme_of earlier slot

-- the metrics since a slot was set last, the oldest first
abbrev pub metrics_of : List Note → ℕ → List ℕ
metrics_of [] slot = []
metrics_of (set i scheme ∷ earlier) slot = if i == slot then [] else metrics_of earlier slot
metrics_of (metric value ∷ earlier) slot = metrics_of earlier slot ++ value ∷ []
metrics_of (_ ∷ earlier) slot = metrics_of earlier slot

-- whether a scheme is active in a slot
abbrev pub is_active_in : List Note → ℕ → Scheme → Bool
is_active_in notes slot scheme = is_active scheme.marks (metrics_of notes slot)

-- the tick at which the window of a slot began, 0 before it first turned
abbrev pub start_of : List Note → ℕ → ℕ
start_of [] slot = 0
start_of (turned i tick ∷ earlier) slot = if i == slot then tick else start_of earlier slot
start_of (_ ∷ earlier) slot = start_of earlier slot

-- the pages of runs
abbrev pub pages_in : List AppliedRun → ℕ
pages_in runs = sum_by (λ r. r.pages) runs

-- whether a note begins a window of the slot
abbrev pub turns : ℕ → Note → Bool
turns slot (turned i tick) = i == slot
turns slot _ = false

-- whether a note sets the slot
abbrev pub sets : ℕ → Note → Bool
sets slot (set i scheme) = i == slot
sets slot _ = false

-- The sum of a number over the runs of a slot's scheme since the last note that stops it, or over all of them. The number is one of
-- the rows that matched, the runs of pages, and whether a passing page was not taken.
abbrev pub sum_of_runs : (ℕ → Note → Bool) → (ℕ → List AppliedRun → Bool → ℕ) → List Note → ℕ → ℕ
sum_of_runs stops number [] slot = 0
sum_of_runs stops number (ran i tick tried runs exceeds ∷ earlier) slot =
    let before = sum_of_runs stops number earlier slot in
    if i == slot then before + number tried runs exceeds else before
sum_of_runs stops number (note ∷ earlier) slot = if stops slot note then 0 else sum_of_runs stops number earlier slot

-- the pages that were charged to a slot since its window began: those of all its runs
abbrev pub charged_of : List Note → ℕ → ℕ
charged_of notes slot = sum_of_runs turns (λ tried runs exceeds. pages_in runs) notes slot

-- the pages of all runs of a slot, also of those before its window began, and before it was set or dropped
abbrev pub pages_of_runs : List Note → ℕ → ℕ
pages_of_runs notes slot = sum_of_runs (λ slot note. false) (λ tried runs exceeds. pages_in runs) notes slot

-- the nanoseconds of all costs that were measured for a slot
abbrev pub nanos_measured : List Note → ℕ → ℕ
nanos_measured [] slot = 0
nanos_measured (cost i nanos ∷ earlier) slot = if i == slot then nanos_measured earlier slot + nanos else nanos_measured earlier slot
nanos_measured (_ ∷ earlier) slot = nanos_measured earlier slot

-- the cost of a slot: the pages of all its runs, and the nanoseconds that were measured for it, at most the greatest number of
-- 64 bits
abbrev pub cost_of : List Note → ℕ → Cost
cost_of notes slot = record { pages = pages_of_runs notes slot; nanos = min (nanos_measured notes slot) (2 ^ 64 - 1) }

-- how many rows matched, over all runs of a slot since it was set last
abbrev pub tried_of : List Note → ℕ → ℕ
tried_of notes slot = sum_of_runs sets (λ tried runs exceeds. tried) notes slot

-- how many pages its scheme was applied to
abbrev pub applied_of : List Note → ℕ → ℕ
applied_of notes slot = sum_of_runs sets (λ tried runs exceeds. pages_in runs) notes slot

-- in how many of them a passing page was not taken
abbrev pub exceeds_of : List Note → ℕ → ℕ
exceeds_of notes slot = sum_of_runs sets (λ tried runs exceeds. cond exceeds 1 0) notes slot

-- a set scheme, by the notes
abbrev pub set_scheme_of : List Note → ℕ → Scheme → SetScheme
set_scheme_of notes slot scheme = record {
  scheme = scheme;
  gauge = record { marks = scheme.marks; active = is_active_in notes slot scheme };
  tried = tried_of notes slot;
  applied = applied_of notes slot;
  exceeds = exceeds_of notes slot;
}

-- a slot, by the notes
abbrev pub slot_of : List Note → ℕ → SlotValue
slot_of notes slot = record {
  set = option_map (λ scheme. set_scheme_of notes slot scheme) (scheme_of notes slot);
  window = record { start = start_of notes slot; charged = charged_of notes slot };
  cost = cost_of notes slot;
}

-- the number of slots: a name that does not compute, so that proofs do not go through the slots one by one
unfoldable pub slot_count : ℕ
slot_count = SLOTS

-- all slots, by the notes
abbrev pub slots_of : List Note → List SlotValue
slots_of notes = map (slot_of notes) (range_with_len 0 slot_count)
