-- The lines of a report as JSON: each is the compact text of one object. An object has its members in the order of their names.
use Rattle.std.specs.Prelude.{ℕ, ◌+◌, ◌*◌, Option, Some, None, List, [], ◌∷◌, ◌++◌, map, codes}
use Rattle.std.specs.Option.{option_map_or}
use Rattle.serde_json.specs.Data.{Data, null, boolean, number, unsigned, string, array, object, Members, member, no_members}
use Rattle.serde_json.specs.View.{items_of}
use Rattle.serde_json.specs.Written.{compact_text}
use Rattle.line_text.specs.Address.{spelled_address}
use Rattle.damon_types.specs.Actions.{action_name}
use Rattle.damon_types.specs.declared.row.Row.{Row}
use Rattle.damon_types.specs.declared.scheme.Action.{Action}
use Rattle.damon_types.specs.declared.space.Target.{Target}
use Rattle.scheme_engine.specs.declared.applied.AppliedRun.{AppliedRun}
use Rattle.scheme_engine.specs.declared.applied.SlotChoice.{SlotChoice}
use Rattle.scheme_engine.specs.declared.slot.SlotView.{SlotView}
use Rattle.scheme_engine.specs.Slots.{SlotValue, slot_view}
use Rattle.damon_core.specs.State.{row_count}
use Rattle.snapshot_print.specs.Commit.{answer_text}
use Rattle.snapshot_print.specs.Fields.{page_address, phase_name}
use Rattle.snapshot_print.specs.Printed.{Printed}
use Rattle.snapshot_print.specs.Schemes.{action_in}
use Rattle.snapshot_print.specs.Writing.{Writing}

-- the line of a value: its text without spaces, and the line's end
abbrev pub json_line : Data → List ℕ
json_line d = compact_text d ++ codes "\n"

-- the members of an object: each a name and a value
abbrev pub members : List (List ℕ × Data) → Members
members [] = no_members
members (m ∷ ms) = member m.0 m.1 (members ms)

-- an object with these members
abbrev pub object_with : List (List ℕ × Data) → Data
object_with ms = object (members ms)

-- a list of values
abbrev pub list_of : List Data → Data
list_of ds = array (items_of ds)

-- a number
abbrev pub count_of : ℕ → Data
count_of n = number (unsigned n)

-- a number, or null
abbrev pub count_or_null : Option ℕ → Data
count_or_null None = null
count_or_null (Some n) = count_of n

-- the address of a page, as a string
abbrev pub address_of_page : List Target → ℕ → Data
address_of_page space page = string (spelled_address (page_address space page))

-- the address after some consecutive pages, as a string
abbrev pub address_after : List Target → ℕ → ℕ → Data
address_after space start pages = string (spelled_address (page_address space start + 4096 * pages))

-- a row
abbrev pub row_json : List Target → Row → Data
row_json space r = object_with (
    (codes "age", count_of r.age)
    ∷ (codes "count", count_of r.count)
    ∷ (codes "end", address_after space r.start r.pages)
    ∷ (codes "last", count_of r.last)
    ∷ (codes "start", address_of_page space r.start)
    ∷ (codes "target", count_of r.target)
    ∷ [])

-- rows
abbrev pub rows_json : List Target → List Row → Data
rows_json space rows = list_of (map (row_json space) rows)

-- a set slot in a show
abbrev pub slot_json : ℕ → SlotView → Data
slot_json slot v = object_with (
    (codes "action", string (action_name v.action))
    ∷ (codes "active", boolean v.active)
    ∷ (codes "applied", count_of v.applied)
    ∷ (codes "charged", count_of v.window.charged)
    ∷ (codes "exceeds", count_of v.exceeds)
    ∷ (codes "slot", count_of slot)
    ∷ (codes "start", count_of v.window.start)
    ∷ (codes "tried", count_of v.tried)
    ∷ [])

-- a slot in a show, where it is set
abbrev pub set_slot_json : ℕ → SlotValue → List Data
set_slot_json slot s = option_map_or (λ v. slot_json slot v ∷ []) (slot_view s) []

-- the set slots among these, in slot order; the first of these slots has this number
abbrev pub set_slots_json : ℕ → List SlotValue → List Data
set_slots_json slot [] = []
set_slots_json slot (s ∷ ss) = set_slot_json slot s ++ set_slots_json (slot + 1) ss

-- what a show writes
abbrev pub show_json : Printed → Data
show_json p = object_with (
    (codes "kind", string (codes "show"))
    ∷ (codes "phase", string (phase_name p.core.phase))
    ∷ (codes "rows", rows_json p.core.space p.core.regions.rows)
    ∷ (codes "slots", list_of (set_slots_json 0 p.slots))
    ∷ (codes "tick", count_of p.core.ticks)
    ∷ [])

-- the word of an action, or null for a slot that is not set
abbrev pub action_or_null : Option Action → Data
action_or_null None = null
action_or_null (Some action) = string (action_name action)

-- a run of pages that the scheme of its slot was applied to, with the score of its row
abbrev pub applied_json : List Target → List SlotValue → AppliedRun → Data
applied_json space slots r = object_with (
    (codes "action", action_or_null (action_in slots r.slot))
    ∷ (codes "end", address_after space r.start r.pages)
    ∷ (codes "score", count_of r.score)
    ∷ (codes "slot", count_of r.slot)
    ∷ (codes "start", address_of_page space r.start)
    ∷ (codes "target", count_of r.target)
    ∷ [])

-- what was chosen for a slot: `left` is null without a quota, `lowest` where nothing was taken, and both for a slot that was
-- not active
abbrev pub choice_json : SlotChoice → Data
choice_json c = object_with (
    (codes "active", boolean c.active)
    ∷ (codes "left", count_or_null c.left)
    ∷ (codes "lowest", count_or_null c.lowest)
    ∷ (codes "slot", count_of c.slot)
    ∷ (codes "taken", count_of c.taken)
    ∷ [])

-- What is printed of the last aggregation: its runs in the order of application, its choices in slot order, and the rows that
-- it reported.
abbrev pub aggregate_json : Printed → Data
aggregate_json p = object_with (
    (codes "applied", list_of (map (applied_json p.core.space p.slots) p.core.report.runs))
    ∷ (codes "choices", list_of (map choice_json p.core.report.choices))
    ∷ (codes "kind", string (codes "aggregate"))
    ∷ (codes "rows", rows_json p.core.space p.core.report.rows)
    ∷ (codes "threshold", count_of p.core.report.threshold)
    ∷ (codes "tick", count_of p.core.report.tick)
    ∷ [])

-- the last line of a report, with the checks and hits of all finished passes
abbrev pub end_json : Printed → Data
end_json p = object_with (
    (codes "checks", count_of p.checks)
    ∷ (codes "hits", count_of p.hits)
    ∷ (codes "kind", string (codes "end"))
    ∷ (codes "rows", count_of (row_count p.core))
    ∷ (codes "ticks", count_of p.core.ticks)
    ∷ [])

-- a commit with this answer, made at this tick
abbrev pub answer_json : ℕ → List ℕ → Data
answer_json tick answer = object_with (
    (codes "answer", string answer)
    ∷ (codes "kind", string (codes "commit"))
    ∷ (codes "tick", count_of tick)
    ∷ [])

-- a report as JSON, each line of which is one object
abbrev pub as_json : Writing
as_json = record {
  show = λ p. json_line (show_json p);
  aggregate = λ p. json_line (aggregate_json p);
  commit = λ tick answer. json_line (answer_json tick (answer_text answer));
  end = λ p. json_line (end_json p);
}
