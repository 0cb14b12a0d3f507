-- What a script writes is whole lines.
use Rattle.std.proofs.Common.{ℕ, ◌+◌, List, [], ◌∷◌, ◌++◌, drop, take, codes, length, Option, Some, None}
use Rattle.std.specs.Prelude.{Result}
use Rattle.std.specs.List.{flat_map}
use Rattle.std.specs.Option.{option_map_or}
use Rattle.std.specs.Fmt.{decimal}
use Rattle.damon_types.specs.declared.row.Row.{Row}
use Rattle.damon_types.specs.declared.scheme.Action.{Action}
use Rattle.damon_types.specs.declared.space.Target.{Target}
use Rattle.scheme_engine.specs.declared.applied.AppliedRun.{AppliedRun}
use Rattle.scheme_engine.specs.declared.applied.SlotChoice.{SlotChoice}
use Rattle.scheme_engine.specs.declared.slot.SlotView.{SlotView}
use Rattle.scheme_engine.specs.Slots.{SlotValue, slot_view}
use Rattle.live_commit.specs.declared.fault.CommitFault.{CommitFault}
use Rattle.damon_core.specs.declared.changed.Changed.{Changed}
use Rattle.damon_core.specs.After.{after}
use Rattle.damon_core.specs.Event.{Event, aggregate, clear, commit, load, observe, prepare, show, touch}
use Rattle.damon_core.specs.Commit.{commit_answer}
use Rattle.damon_core.specs.Report.{ReportValue}
use Rattle.damon_core.specs.State.{Core, State, row_count}
use Rattle.snapshot_print.specs.Commit.{answer_text}
use Rattle.snapshot_print.specs.Fields.{pages_part, phase_name}
use Rattle.snapshot_print.specs.Lines.{aggregate_line, as_text, place_part, row_line, row_lines, show_line}
use Rattle.snapshot_print.specs.Printed.{Printed, printed_state}
use Rattle.snapshot_print.specs.Schemes.{action_in, apply_line, apply_part, choice_lines, choice_part, choices_text, runs_of_slot, scheme_line, scheme_part, shown_slot, shown_slots, slot_line}
use Rattle.script_run.specs.Report.{event_text, events_text}
use Rattle.damon_admin.proofs.Ended.{IsEnded, both_ended, flat_ended, line_ended, none_ended}

row_ended : (space : List Target) (r : Row) → IsEnded (row_line space r)
row_ended space r =
    line_ended (place_part space r ∷ codes " count=" ∷ decimal r.count ∷ codes " last=" ∷ decimal r.last ∷ codes " age=" ∷ decimal r.age ∷ [])

rows_ended : (space : List Target) (rows : List Row) → IsEnded (row_lines space rows)
rows_ended space rows = flat_ended (row_line space) (row_ended space) rows

slot_ended : (slot : ℕ) (v : SlotView) → IsEnded (scheme_line slot v)
slot_ended slot v =
    line_ended
    (scheme_part slot v ∷ codes " charged=" ∷ decimal v.window.charged ∷ codes " start=" ∷ decimal v.window.start ∷ codes " tried=" ∷ decimal v.tried
    ∷ codes " applied=" ∷ decimal v.applied ∷ codes " exceeds=" ∷ decimal v.exceeds ∷ [])

slots_ended : (slot : ℕ) (ss : List SlotValue) → IsEnded (shown_slots slot ss)
slots_ended slot [] = none_ended
slots_ended slot (s ∷ ss) = both_ended (shown_slot slot s) (shown_slots (slot + 1) ss) (by (slot_view s)) (slots_ended (slot + 1) ss)
  where
    by : (v : Option SlotView) → IsEnded (option_map_or (scheme_line slot) v [])
    by None = none_ended
    by (Some v) = slot_ended slot v

show_line_ended : (c : Core) → IsEnded (show_line c)
show_line_ended c =
    line_ended (codes "show tick=" ∷ decimal c.ticks ∷ codes " phase=" ∷ phase_name c.phase ∷ codes " rows=" ∷ decimal (row_count c) ∷ [])

show_ended : (p : Printed) → IsEnded (as_text.show p)
show_ended p =
    both_ended (show_line p.core) (row_lines p.core.space p.core.regions.rows ++ shown_slots 0 p.slots) (show_line_ended p.core)
    (both_ended (row_lines p.core.space p.core.regions.rows) (shown_slots 0 p.slots) (rows_ended p.core.space p.core.regions.rows) (slots_ended 0 p.slots))

run_ended : (space : List Target) (slot : ℕ) (action : Action) (r : AppliedRun) → IsEnded (apply_line space slot action r)
run_ended space slot action r =
    line_ended (apply_part slot action ∷ decimal r.target ∷ pages_part space r.start r.pages ∷ codes " score=" ∷ decimal r.score ∷ [])

choice_ended : (space : List Target) (slots : List SlotValue) (runs : List AppliedRun) (c : SlotChoice) → IsEnded (choice_lines space slots runs c)
choice_ended space slots runs c = by (action_in slots c.slot)
  where
    by : (a : Option Action) → IsEnded (option_map_or (λ action. flat_map (apply_line space c.slot action) runs ++ slot_line c) a [])
    by None = none_ended
    by (Some action) =
        both_ended (flat_map (apply_line space c.slot action) runs) (slot_line c) (flat_ended (apply_line space c.slot action) (run_ended space c.slot action) runs)
        (line_ended (codes "slot " ∷ decimal c.slot ∷ choice_part c ∷ []))

choices_ended : (space : List Target) (slots : List SlotValue) (runs : List AppliedRun) (cs : List SlotChoice) → IsEnded (choices_text space slots runs cs)
choices_ended space slots runs [] = none_ended
choices_ended space slots runs (c ∷ cs) =
    let n = runs_of_slot c.slot runs in
    both_ended (choice_lines space slots (take n runs) c) (choices_text space slots (drop n runs) cs)
    (choice_ended space slots (take n runs) c) (choices_ended space slots (drop n runs) cs)

aggregate_line_ended : (r : ReportValue) → IsEnded (aggregate_line r)
aggregate_line_ended r =
    line_ended (codes "aggregate tick=" ∷ decimal r.tick ∷ codes " threshold=" ∷ decimal r.threshold ∷ codes " rows=" ∷ decimal (length r.rows) ∷ [])

aggregate_ended : (p : Printed) → IsEnded (as_text.aggregate p)
aggregate_ended p =
    let served = choices_text p.core.space p.slots p.core.report.runs p.core.report.choices in
    both_ended (aggregate_line p.core.report) (served ++ row_lines p.core.space p.core.report.rows) (aggregate_line_ended p.core.report)
    (both_ended served (row_lines p.core.space p.core.report.rows)
    (choices_ended p.core.space p.slots p.core.report.runs p.core.report.choices) (rows_ended p.core.space p.core.report.rows))

commit_ended : (tick : ℕ) (answer : Result Changed CommitFault) → IsEnded (as_text.commit tick answer)
commit_ended tick answer = line_ended (codes "commit tick=" ∷ decimal tick ∷ codes " " ∷ answer_text answer ∷ [])

pub end_ended : (p : Printed) → IsEnded (as_text.end p)
end_ended p =
    line_ended
    (codes "end ticks=" ∷ decimal p.core.ticks ∷ codes " rows=" ∷ decimal (row_count p.core) ∷ codes " checks=" ∷ decimal p.checks ∷ codes " hits="
    ∷ decimal p.hits ∷ [])

event_ended : (s : State) (e : Event) → IsEnded (event_text as_text s e)
event_ended s show = show_ended (printed_state s)
event_ended s (aggregate words) = aggregate_ended (printed_state (after s (aggregate words)))
event_ended s (commit parts) = commit_ended s.core.ticks (commit_answer parts s.core)
event_ended s (touch page) = none_ended
event_ended s (prepare words) = none_ended
event_ended s clear = none_ended
event_ended s (load hit) = none_ended
event_ended s observe = none_ended

-- what events write is whole lines
pub events_ended : (s : State) (es : List Event) → IsEnded (events_text as_text s es)
events_ended s [] = none_ended
events_ended s (e ∷ es) =
    both_ended (event_text as_text s e) (events_text as_text (after s e) es) (event_ended s e) (events_ended (after s e) es)
