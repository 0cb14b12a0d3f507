-- The report of a script as text, by the states along its run.
use Rattle.std.specs.Prelude.{◌≡◌, ℕ, List, [], ◌∷◌, ◌++◌}
use Rattle.damon_core.specs.State.{State, opening}
use Rattle.damon_core.specs.Commit.{commit_answer}
use Rattle.damon_core.specs.Event.{Event, aggregate, commit, show}
use Rattle.damon_core.specs.After.{after}
use Rattle.damon_core.specs.Reached.{run}
use Rattle.snapshot_print.specs.Lines.{as_text}
use Rattle.snapshot_print.specs.StateText.{aggregate_text, commit_text, end_text, show_text}
use Rattle.damon_control.specs.Script.{ScriptValue}
use Rattle.script_run.specs.Report.{report}
use Rattle.script_run.specs.ScriptEvents.{script_events}

-- What an event writes: a show the state, an aggregation what it reports, a commit its answer; the others write nothing.
abbrev pub text_of_event : State → Event → List ℕ
text_of_event s show = show_text s
text_of_event s (aggregate words) = aggregate_text (after s (aggregate words))
text_of_event s (commit parts) = commit_text s.core.ticks (commit_answer parts s.core)
text_of_event s _ = []

-- what events write from a state on, one after another
abbrev pub text_of_events : State → List Event → List ℕ
text_of_events s [] = []
text_of_events s (e ∷ es) = text_of_event s e ++ text_of_events (after s e) es

-- the report of a script: what its events write, and the last line
abbrev pub text_report : ScriptValue → List ℕ
text_report s =
    let es = script_events s in
    text_of_events (opening s.setup) es ++ end_text (run (opening s.setup) es)

-- it is the report that is printed
abbrev pub ReportsAreText : Type 0
ReportsAreText = (s : ScriptValue) → text_report s ≡ report as_text s
