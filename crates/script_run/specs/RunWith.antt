-- The run of a script with callbacks: its events and its report.
use Rattle.std.specs.Prelude.{ℕ, List, [], ◌∷◌, ◌++◌}
use Rattle.damon_core.specs.State.{State, opening}
use Rattle.damon_core.specs.Event.{Event}
use Rattle.damon_core.specs.After.{after}
use Rattle.damon_core.specs.Reached.{run}
use Rattle.snapshot_print.specs.Printed.{printed_state}
use Rattle.snapshot_print.specs.Writing.{Writing}
use Rattle.damon_control.specs.Script.{ScriptValue}
use Rattle.script_run.specs.Callbacks.{Callbacks, put_after}
use Rattle.script_run.specs.Course.{Course, course_after, going_with, with_puts}
use Rattle.script_run.specs.Going.{onward}
use Rattle.script_run.specs.Report.{event_text, events_text}
use Rattle.script_run.specs.Unfold.{commands_events, start}

-- the course before the first event
abbrev pub start_with : Callbacks → ScriptValue → Course
start_with c s = record { moment = start s; memory = c.first (opening s.setup) }

-- The script's own events in a run with callbacks. Events that callbacks put in are not among them, but they can change the phase at
-- which steps stop.
abbrev pub own_events : Callbacks → ScriptValue → List Event
own_events c s = commands_events (going_with c) s.setup.cap (start_with c s) s.commands

-- the events of a script with those that callbacks put in
abbrev pub unfold_with : Callbacks → ScriptValue → List Event
unfold_with c s = with_puts c (start_with c s) (own_events c s)

-- what callbacks write directly after the text of an event of the script
abbrev pub lines_after : Callbacks → Course → Event → List ℕ
lines_after c r e = c.writes (c.keeps r.memory r.moment.state e) (after r.moment.state e) e

-- What events of the script write from a course on: each its own text, then the lines of callbacks, and then the text of the
-- events that are put in.
abbrev pub text_from : Callbacks → Writing → Course → List Event → List ℕ
text_from c w r [] = []
text_from c w r (e ∷ es) =
    let s = r.moment.state in
    event_text w s e
    ++ (lines_after c r e
    ++ (events_text w (after s e) (put_after c r.memory s e)
    ++ text_from c w (course_after c r e) es))

-- the last line of a report and the text of callbacks after it, at the end of a run
abbrev pub last_text_with : Callbacks → Writing → List ℕ → State → List ℕ
last_text_with c w memory s = w.end (printed_state s) ++ c.ends memory s

-- the state at the end of the run of a script with callbacks
abbrev pub last_state_with : Callbacks → ScriptValue → State
last_state_with c s = run (opening s.setup) (unfold_with c s)

-- what is remembered at the end
abbrev pub last_memory : Callbacks → ScriptValue → List ℕ
last_memory c s = (onward (going_with c) (start_with c s) (own_events c s)).memory

-- the report of a script with callbacks: what its events write, and the last line
abbrev pub report_with : Callbacks → Writing → ScriptValue → List ℕ
report_with c w s =
    text_from c w (start_with c s) (own_events c s) ++ last_text_with c w (last_memory c s) (last_state_with c s)
