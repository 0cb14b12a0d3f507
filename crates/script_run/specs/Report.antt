-- The report of a script.
use Rattle.std.specs.Prelude.{ℕ, List, [], ◌∷◌, ◌++◌}
use Rattle.damon_core.specs.State.{State, opening}
use Rattle.damon_core.specs.Commit.{commit_answer}
use Rattle.damon_core.specs.Event.{Event, aggregate, commit, show}
use Rattle.damon_core.specs.After.{after}
use Rattle.damon_core.specs.Reached.{run}
use Rattle.snapshot_print.specs.Printed.{printed_state}
use Rattle.snapshot_print.specs.Writing.{Writing}
use Rattle.damon_control.specs.Script.{ScriptValue}
use Rattle.script_run.specs.Unfold.{unfold_script}

-- What an event writes: a show the state, an aggregation what it reports, a commit its answer; the others write nothing.
abbrev pub event_text : Writing → State → Event → List ℕ
event_text w s show = w.show (printed_state s)
event_text w s (aggregate words) = w.aggregate (printed_state (after s (aggregate words)))
event_text w s (commit parts) = w.commit s.core.ticks (commit_answer parts s.core)
event_text w s _ = []

-- what events write from a state on, one after another
abbrev pub events_text : Writing → State → List Event → List ℕ
events_text w s [] = []
events_text w s (e ∷ es) = event_text w s e ++ events_text w (after s e) es

-- the state at the end of the run of a script
abbrev pub last_state : ScriptValue → State
last_state s = run (opening s.setup) (unfold_script s)

-- the report of a script: what its events write, and the last line
abbrev pub report : Writing → ScriptValue → List ℕ
report w s = events_text w (opening s.setup) (unfold_script s) ++ w.end (printed_state (last_state s))
