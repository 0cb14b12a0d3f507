-- The report by states is the one that is printed.
use Rattle.std.proofs.Common.{◌≡◌, List, [], ◌∷◌, ◌++◌, refl, ap, ◌∙◌}
use Rattle.damon_core.specs.After.{after}
use Rattle.damon_core.specs.Event.{Event, aggregate, clear, commit, load, observe, prepare, show, touch}
use Rattle.damon_core.specs.Reached.{run}
use Rattle.damon_core.specs.State.{State, opening}
use Rattle.snapshot_print.specs.Lines.{as_text}
use Rattle.snapshot_print.specs.Printed.{printed_state}
use Rattle.snapshot_print.specs.StateText.{IsTextOfStates, end_text}
use Rattle.script_run.specs.Report.{event_text, events_text, last_state}
use Rattle.script_run.specs.TextReport.{ReportsAreText, text_of_event, text_of_events}
use Rattle.script_run.specs.Unfold.{unfold_script}
use Rattle.script_run.proofs.ScriptEvents.{events_are_alone}

event_is : IsTextOfStates → (s : State) (e : Event) → text_of_event s e ≡ event_text as_text s e
event_is texts s show = texts.show s
event_is texts s (aggregate words) = texts.aggregate words s
event_is texts s (commit parts) = refl
event_is texts s (touch page) = refl
event_is texts s (prepare words) = refl
event_is texts s clear = refl
event_is texts s (load hit) = refl
event_is texts s observe = refl

events_are : IsTextOfStates → (s : State) (es : List Event) → text_of_events s es ≡ events_text as_text s es
events_are texts s [] = refl
events_are texts s (e ∷ es) = λ i. event_is texts s e i ++ events_are texts (after s e) es i

pub reports_are : IsTextOfStates → ReportsAreText
reports_are texts s =
    ap (λ (es : List Event). text_of_events (opening s.setup) es ++ end_text (run (opening s.setup) es)) (events_are_alone s)
    ∙ ap (λ t. t ++ as_text.end (printed_state (last_state s))) (events_are texts (opening s.setup) (unfold_script s))
