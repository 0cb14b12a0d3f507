-- The text of a report by states: what a show, an aggregation, a commit and the end write.
use Rattle.std.specs.Prelude.{◌≡◌, ℕ, ◌==◌, List, [], ◌++◌, codes, length, Result, if◌then◌else◌}
use Rattle.std.specs.Fmt.{decimal}
use Rattle.std.specs.List.{filter, flat_map, range_with_len}
use Rattle.std.specs.Option.{option_map_or}
use Rattle.damon_types.specs.Actions.{action_name}
use Rattle.damon_types.specs.declared.row.Row.{Row}
use Rattle.damon_types.specs.declared.scheme.Action.{Action}
use Rattle.damon_types.specs.declared.space.Target.{Target}
use Rattle.live_commit.specs.declared.fault.CommitFault.{CommitFault}
use Rattle.scheme_engine.specs.declared.applied.AppliedRun.{AppliedRun}
use Rattle.scheme_engine.specs.declared.applied.SlotChoice.{SlotChoice}
use Rattle.damon_core.specs.declared.changed.Changed.{Changed}
use Rattle.damon_core.specs.Aggregate.{aggregated}
use Rattle.damon_core.specs.Note.{Note}
use Rattle.damon_core.specs.Slots.{applied_of, charged_of, exceeds_of, is_active_in, scheme_of, slot_count, start_of, tried_of}
use Rattle.damon_core.specs.State.{State, row_count}
use Rattle.damon_core.specs.Totals.{checks_made, hits_made}
use Rattle.snapshot_print.specs.Commit.{answer_text}
use Rattle.snapshot_print.specs.Fields.{◌then◌, number_or_none, pages_part, phase_name, yes_or_no}
use Rattle.snapshot_print.specs.Lines.{as_text}
use Rattle.snapshot_print.specs.Printed.{printed_state}

-- the line of a row: its target, its pages, its counts and its age
abbrev pub row_text : List Target → Row → List ℕ
row_text space r =
    codes "row " then decimal r.target then pages_part space r.start r.pages
    then codes " count=" then decimal r.count then codes " last=" then decimal r.last
    then codes " age=" then decimal r.age then codes "\n"

-- the line of a slot in a show, where it is set: the action of its scheme, whether it is active, its window, and what its scheme has
-- done
abbrev pub slot_text : List Note → ℕ → List ℕ
slot_text notes slot =
    option_map_or
    (λ scheme.
    codes "scheme " then decimal slot then codes " " then action_name scheme.action
    then codes " active=" then yes_or_no (is_active_in notes slot scheme)
    then codes " charged=" then decimal (charged_of notes slot) then codes " start=" then decimal (start_of notes slot)
    then codes " tried=" then decimal (tried_of notes slot) then codes " applied=" then decimal (applied_of notes slot)
    then codes " exceeds=" then decimal (exceeds_of notes slot) then codes "\n")
    (scheme_of notes slot) []

-- what a show writes: the tick, the phase and the number of rows, the rows, and the set slots
abbrev pub show_text : State → List ℕ
show_text s =
    codes "show tick=" then decimal s.core.ticks then codes " phase=" then phase_name s.core.phase
    then codes " rows=" then decimal (row_count s.core) then codes "\n"
    then flat_map (row_text s.core.space) s.core.regions.rows
    then flat_map (slot_text s.notes) (range_with_len 0 slot_count)

-- the line of a run that the scheme of a slot was applied to, with the score of its row
abbrev pub run_text : List Target → ℕ → Action → AppliedRun → List ℕ
run_text space slot action r =
    codes "apply " then decimal slot then codes " " then action_name action then codes " "
    then decimal r.target then pages_part space r.start r.pages then codes " score=" then decimal r.score then codes "\n"

-- the line of what was chosen for a slot, if it was active
abbrev pub choice_text : SlotChoice → List ℕ
choice_text c =
    codes "slot " then decimal c.slot
    then (if c.active then codes " left=" then number_or_none c.left then codes " taken=" then decimal c.taken
    then codes " lowest=" then number_or_none c.lowest
    else codes " inactive")
    then codes "\n"

-- the lines of a choice: those of the runs of its slot, and its own
abbrev pub choice_lines_of : List Target → List Note → List AppliedRun → SlotChoice → List ℕ
choice_lines_of space notes runs c =
    option_map_or
    (λ scheme. flat_map (run_text space c.slot scheme.action) (filter (λ r. r.slot == c.slot) runs) ++ choice_text c)
    (scheme_of notes c.slot) []

-- what an aggregation writes: its tick, its threshold and the number of rows that it reported, the schemes that it served, and these
-- rows
abbrev pub aggregate_text : State → List ℕ
aggregate_text s =
    let r = s.core.report in
    codes "aggregate tick=" then decimal r.tick then codes " threshold=" then decimal r.threshold
    then codes " rows=" then decimal (length r.rows) then codes "\n"
    then flat_map (choice_lines_of s.core.space s.notes r.runs) r.choices
    then flat_map (row_text s.core.space) r.rows

-- what a commit writes: the tick at which it was made, and its answer
abbrev pub commit_text : ℕ → Result Changed CommitFault → List ℕ
commit_text tick answer = codes "commit tick=" then decimal tick then codes " " then answer_text answer then codes "\n"

-- the last line of a report: the ticks, the number of rows, and the checks and hits of all finished passes
abbrev pub end_text : State → List ℕ
end_text s =
    codes "end ticks=" then decimal s.core.ticks then codes " rows=" then decimal (row_count s.core)
    then codes " checks=" then decimal (checks_made s.notes) then codes " hits=" then decimal (hits_made s.notes) then codes "\n"

-- the same text as that of what is printed
pub record IsTextOfStates : Type 0 where
  pub show : (s : State) → show_text s ≡ as_text.show (printed_state s)
  pub aggregate : (words : List ℕ) (s : State) → aggregate_text (aggregated words s) ≡ as_text.aggregate (printed_state (aggregated words s))
