-- The lines of schemes.
use Rattle.std.specs.Prelude.{ℕ, ◌+◌, ◌==◌, List, [], ◌∷◌, ◌++◌, take, drop, codes, Option, slice_index_or, if◌then◌else◌}
use Rattle.std.specs.List.{filter, flat_map, prefix_len}
use Rattle.std.specs.Option.{option_map, option_map_or}
use Rattle.std.specs.Fmt.{decimal}
use Rattle.damon_types.specs.Actions.{action_name}
use Rattle.damon_types.specs.declared.scheme.Action.{Action}
use Rattle.damon_types.specs.declared.space.Target.{Target}
use Rattle.scheme_engine.specs.declared.applied.AppliedRun.{AppliedRun}
use Rattle.scheme_engine.specs.declared.applied.SlotChoice.{SlotChoice}
use Rattle.scheme_engine.specs.declared.slot.SlotView.{SlotView}
use Rattle.scheme_engine.specs.Slots.{SlotValue, empty_slot, slot_view}
use Rattle.snapshot_print.specs.Fields.{◌then◌, number_or_none, pages_part, yes_or_no}

-- the number of a set slot, the action of its scheme, and whether it is active
abbrev pub scheme_part : ℕ → SlotView → List ℕ
scheme_part slot v =
    codes "scheme " then decimal slot then codes " " then action_name v.action
    then codes " active=" then yes_or_no v.active

-- its window, and the statistics of its scheme
abbrev pub statistics_part : SlotView → List ℕ
statistics_part v =
    codes " charged=" then decimal v.window.charged then codes " start=" then decimal v.window.start
    then codes " tried=" then decimal v.tried then codes " applied=" then decimal v.applied
    then codes " exceeds=" then decimal v.exceeds then codes "\n"

-- the line of a set slot in a show
abbrev pub scheme_line : ℕ → SlotView → List ℕ
scheme_line slot v = scheme_part slot v ++ statistics_part v

-- the line of a slot in a show, where it is set
abbrev pub shown_slot : ℕ → SlotValue → List ℕ
shown_slot slot s = option_map_or (scheme_line slot) (slot_view s) []

-- the lines of the set slots among these, in slot order; the first of these slots has this number
abbrev pub shown_slots : ℕ → List SlotValue → List ℕ
shown_slots slot [] = []
shown_slots slot (s ∷ ss) = shown_slot slot s ++ shown_slots (slot + 1) ss

-- the beginning of an `apply` line: the number of the slot, and the action of its scheme
abbrev pub apply_part : ℕ → Action → List ℕ
apply_part slot action = codes "apply " then decimal slot then codes " " then action_name action then codes " "

-- the rest of it: the target and the pages of the run, and the score of its row
abbrev pub run_part : List Target → AppliedRun → List ℕ
run_part space r =
    decimal r.target then pages_part space r.start r.pages then codes " score=" then decimal r.score then codes "\n"

-- the line of a run that the scheme of a slot was applied to
abbrev pub apply_line : List Target → ℕ → Action → AppliedRun → List ℕ
apply_line space slot action r = apply_part slot action ++ run_part space r

-- what was chosen for an active slot
abbrev pub taken_part : SlotChoice → List ℕ
taken_part c =
    codes " left=" then number_or_none c.left then codes " taken=" then decimal c.taken
    then codes " lowest=" then number_or_none c.lowest

-- what was chosen for a slot, if it was active
abbrev pub choice_part : SlotChoice → List ℕ
choice_part c = if c.active then taken_part c else codes " inactive"

-- the `slot` line of a choice
abbrev pub slot_line : SlotChoice → List ℕ
slot_line c = codes "slot " then decimal c.slot then choice_part c then codes "\n"

-- the action of the scheme in the slot with this number, if it is set
abbrev pub action_in : List SlotValue → ℕ → Option Action
action_in slots slot = option_map (λ v. v.action) (slot_view (slice_index_or slots slot empty_slot))

-- the lines of a choice with these runs, if its slot is set: the `apply` line of each run, and then its `slot` line
abbrev pub choice_lines : List Target → List SlotValue → List AppliedRun → SlotChoice → List ℕ
choice_lines space slots runs c =
    option_map_or (λ action. flat_map (apply_line space c.slot action) runs ++ slot_line c) (action_in slots c.slot) []

-- how many of these runs, from the first on, are of this slot
abbrev pub runs_of_slot : ℕ → List AppliedRun → ℕ
runs_of_slot slot runs = prefix_len (λ r. r.slot == slot) runs

-- The lines of choices in order, each with its runs. Choices and runs are both in slot order, so the runs of a choice come next.
abbrev pub choices_text : List Target → List SlotValue → List AppliedRun → List SlotChoice → List ℕ
choices_text space slots runs [] = []
choices_text space slots runs (c ∷ cs) =
    let n = runs_of_slot c.slot runs in
    choice_lines space slots (take n runs) c ++ choices_text space slots (drop n runs) cs

-- The same, where each choice has all runs of its slot.
abbrev pub choices_by_slot : List Target → List SlotValue → List AppliedRun → List SlotChoice → List ℕ
choices_by_slot space slots runs cs =
    flat_map (λ c. choice_lines space slots (filter (λ r. r.slot == c.slot) runs) c) cs
