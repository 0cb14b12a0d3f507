-- Slots that are served one after another.
use Rattle.std.proofs.Common.{◌≡◌, ℕ, ◌+◌, ◌≤◌, ◌<◌, List, [], ◌∷◌, ◌++◌, length, take, drop, get_or, set, refl, sym, ap, ◌∙◌, subst, append_assoc, arith}
use Rattle.std.specs.Prelude.{All}
use Rattle.std.specs.List.{AllByRecursion}
use Rattle.std.proofs.lemmas.List.{append-nil, drop_all, drop_more, drop-drop, drop-set-lt, get_or-drop, length-set, take_all, take_more_set}
use Rattle.std.proofs.lemmas.List.Elements.{All-from_recursion, All-head, All-tail}
use Rattle.damon_types.specs.declared.space.Target.{Target}
use Rattle.region_list.specs.Regions.{RegionList}
use Rattle.scheme_engine.specs.declared.applied.AppliedRun.{AppliedRun}
use Rattle.scheme_engine.specs.declared.applied.SlotChoice.{SlotChoice}
use Rattle.scheme_engine.specs.Engine.{FitsSlot}
use Rattle.scheme_engine.specs.Served.{Served, ServedSlot, slot_served, slots_served}
use Rattle.scheme_engine.specs.Slots.{SlotValue, empty_slot}

-- slots that are served, the first of which has this number, and what they give together
abbrev joined : ServedSlot → Served → Served
joined first others = record { slots = first.slot ∷ others.slots; rows = others.rows; runs = first.runs ++ others.runs; choices = first.choices ++ others.choices }

abbrev pub slot_at : List SlotValue → ℕ → SlotValue
slot_at slots n = get_or slots n empty_slot

-- the slots from number n on: the one with that number, and then the others
next_served : (space : List Target) (aggr tick n : ℕ) (regions : RegionList) (slots : List SlotValue) → n < length slots → slots_served n space aggr tick regions (drop n slots) ≡ (let first = slot_served n space aggr tick regions (slot_at slots n) in joined first (slots_served (n + 1) space aggr tick (record regions { rows = first.rows }) (drop (n + 1) slots)))
next_served space aggr tick n regions slots within = ap (slots_served n space aggr tick regions) (drop_more slots n empty_slot within)

-- The first n slots are served. Serving the others gives what serving all gives.
pub record IsServing (space : List Target) (aggr tick : ℕ) (old : RegionList) (start : List SlotValue) (n : ℕ) (slots : List SlotValue) (regions : RegionList) (runs : List AppliedRun) (choices : List SlotChoice) : Type 0 where
  pub size : length slots ≡ length start
  pub rest : drop n slots ≡ drop n start
  pub kept : regions ≡ record old { rows = regions.rows }
  pub all_slots : take n slots ++ (slots_served n space aggr tick regions (drop n start)).slots ≡ (slots_served 0 space aggr tick old start).slots
  pub all_rows : (slots_served n space aggr tick regions (drop n start)).rows ≡ (slots_served 0 space aggr tick old start).rows
  pub all_runs : runs ++ (slots_served n space aggr tick regions (drop n start)).runs ≡ (slots_served 0 space aggr tick old start).runs
  pub all_choices : choices ++ (slots_served n space aggr tick regions (drop n start)).choices ≡ (slots_served 0 space aggr tick old start).choices

-- the slot that is served next was not changed
pub same_slot : {space : List Target} {aggr tick : ℕ} {old : RegionList} {start : List SlotValue} {n : ℕ} {slots : List SlotValue} {regions : RegionList} {runs : List AppliedRun} {choices : List SlotChoice} → IsServing space aggr tick old start n slots regions runs choices → slot_at slots n ≡ slot_at start n
same_slot {start = start} {n = n} {slots = slots} is = by (ap (λ (ss : List SlotValue). slot_at ss 0) is.rest)
  where
    by : slot_at (drop n slots) 0 ≡ slot_at (drop n start) 0 → slot_at slots n ≡ slot_at start n
    by same =
        let here : n + 0 ≡ n = omega arith in
        ap (slot_at slots) (sym here) ∙ sym (get_or-drop n slots 0 empty_slot) ∙ same ∙ get_or-drop n start 0 empty_slot ∙ ap (slot_at start) here

-- what holds of all items holds of the last ones
All-rest_of : (xs ys : List SlotValue) → All FitsSlot (xs ++ ys) → All FitsSlot ys
All-rest_of [] ys all = all
All-rest_of (x ∷ xs) ys all = All-rest_of xs ys (All-tail FitsSlot x (xs ++ ys) all)

-- the slot that is served next fits
pub serving_fits : {space : List Target} {aggr tick : ℕ} {old : RegionList} {start : List SlotValue} {n : ℕ} {slots : List SlotValue} {regions : RegionList} {runs : List AppliedRun} {choices : List SlotChoice} → IsServing space aggr tick old start n slots regions runs choices → n < length slots → AllByRecursion FitsSlot (slots_served 0 space aggr tick old start).slots → FitsSlot (slot_served n space aggr tick regions (slot_at slots n)).slot
serving_fits {space} {aggr} {tick} {old} {start} {n} {slots} {regions} {runs} {choices} is within fits =
    All-head FitsSlot first others (All-rest_of (take n slots) (first ∷ others) (All-from_recursion FitsSlot (take n slots ++ first ∷ others) (subst (AllByRecursion FitsSlot) (sym listed) fits)))
  where
    first : SlotValue
    first = (slot_served n space aggr tick regions (slot_at slots n)).slot

    others : List SlotValue
    others = (slots_served (n + 1) space aggr tick (record regions { rows = (slot_served n space aggr tick regions (slot_at start n)).rows }) (drop (n + 1) start)).slots

    here : n < length start
    here = omega (arith, within, is.size)

    listed : take n slots ++ first ∷ others ≡ (slots_served 0 space aggr tick old start).slots
    listed = ap (λ (s : SlotValue). take n slots ++ (slot_served n space aggr tick regions s).slot ∷ others) (same_slot is) ∙ ap (λ (w : Served). take n slots ++ w.slots) (sym (next_served space aggr tick n regions start here)) ∙ is.all_slots
