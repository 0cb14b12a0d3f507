-- A run with callbacks that remember and add nothing is the run of the script alone.
use Rattle.std.specs.Prelude.{◌≡◌, ℕ, zero, suc, List, [], ◌∷◌, ◌++◌, refl, if◌then◌else◌}
use Rattle.std.proofs.Common.{◌∙◌, ap, append-nil}
use Rattle.damon_core.specs.State.{State, opening}
use Rattle.damon_core.specs.Event.{Event}
use Rattle.damon_core.specs.Reached.{run}
use Rattle.damon_world.specs.Moment.{Moment, next_event}
use Rattle.snapshot_print.specs.Printed.{printed_state}
use Rattle.snapshot_print.specs.Writing.{Writing}
use Rattle.damon_control.specs.Script.{ScriptValue}
use Rattle.script_lines.specs.Command.{CommandValue, Touch, Sweep, Step, Arm, Finish, Show, Commit, pass_limit}
use Rattle.script_run.specs.Callbacks.{no_callbacks}
use Rattle.script_run.specs.Course.{Course, course_after, going_with, with_puts}
use Rattle.script_run.specs.Going.{onward, plain}
use Rattle.script_run.specs.Report.{event_text, events_text, last_state, report}
use Rattle.script_run.specs.RunWith.{last_state_with, own_events, report_with, start_with, text_from, unfold_with}
use Rattle.script_run.specs.Unfold.{command_events, commands_events, steps_until, stops_at, unfold_script}
use Rattle.script_run.specs.declared.part.Until.{Until}
use Rattle.script_run.specs.declared.part.Until.TheVariants as until

-- the moment to which events lead
onward-alone : (r : Course) (es : List Event) → (onward (going_with no_callbacks) r es).moment ≡ onward plain r.moment es
onward-alone r [] = refl
onward-alone r (e ∷ es) = onward-alone (course_after no_callbacks r e) es

steps_until-alone : (u : Until) (n : ℕ) (r : Course) → steps_until (going_with no_callbacks) u n r ≡ steps_until plain u n r.moment
steps_until-alone u zero r = refl
steps_until-alone u (suc n) r =
    let m = r.moment in
    let e = next_event m.state m.stream in
    ap (λ (es : List Event). if stops_at u m.state.core.phase then [] else e ∷ es) (steps_until-alone u n (course_after no_callbacks r e))

command_events-alone : (cap : ℕ) (r : Course) (c : CommandValue) → command_events (going_with no_callbacks) cap r c ≡ command_events plain cap r.moment c
command_events-alone cap r (Touch page) = refl
command_events-alone cap r (Sweep from to) = refl
command_events-alone cap r (Step times) = steps_until-alone until.Count times r
command_events-alone cap r Arm = steps_until-alone until.Armed (pass_limit cap) r
command_events-alone cap r Finish = steps_until-alone until.Idle (pass_limit cap) r
command_events-alone cap r Show = refl
command_events-alone cap r (Commit parts) = refl

commands_events-alone : (cap : ℕ) (r : Course) (cs : List CommandValue)
    → commands_events (going_with no_callbacks) cap r cs ≡ commands_events plain cap r.moment cs
commands_events-alone cap r [] = refl
commands_events-alone cap r (c ∷ cs) =
    let es = command_events (going_with no_callbacks) cap r c in
    ap (λ fs. es ++ fs) (commands_events-alone cap (onward (going_with no_callbacks) r es) cs)
    ∙ ap (λ (m : Moment). es ++ commands_events plain cap m cs) (onward-alone r es)
    ∙ ap (λ (fs : List Event). fs ++ commands_events plain cap (onward plain r.moment fs) cs) (command_events-alone cap r c)

-- the events of the script
pub own_events-alone : (s : ScriptValue) → own_events no_callbacks s ≡ unfold_script s
own_events-alone s = commands_events-alone s.setup.cap (start_with no_callbacks s) s.commands

-- nothing is put in
pub with_puts-alone : (r : Course) (es : List Event) → with_puts no_callbacks r es ≡ es
with_puts-alone r [] = refl
with_puts-alone r (e ∷ es) = ap (λ fs. e ∷ fs) (with_puts-alone (course_after no_callbacks r e) es)

pub unfold-alone : (s : ScriptValue) → unfold_with no_callbacks s ≡ unfold_script s
unfold-alone s = with_puts-alone (start_with no_callbacks s) (own_events no_callbacks s) ∙ own_events-alone s

-- the state at the end
pub last_state-alone : (s : ScriptValue) → last_state_with no_callbacks s ≡ last_state s
last_state-alone s = ap (run (opening s.setup)) (unfold-alone s)

-- no text but that of the events
pub text_from-alone : (w : Writing) (r : Course) (es : List Event) → text_from no_callbacks w r es ≡ events_text w r.moment.state es
text_from-alone w r [] = refl
text_from-alone w r (e ∷ es) = ap (λ t. event_text w r.moment.state e ++ t) (text_from-alone w (course_after no_callbacks r e) es)

-- the report
pub report-alone : (w : Writing) (s : ScriptValue) → report_with no_callbacks w s ≡ report w s
report-alone w s =
    let first = opening s.setup in
    let end = w.end (printed_state (last_state_with no_callbacks s)) in
    ap (λ t. t ++ (end ++ [])) (text_from-alone w (start_with no_callbacks s) (own_events no_callbacks s))
    ∙ ap (λ t. events_text w first (own_events no_callbacks s) ++ t) (append-nil end)
    ∙ ap (λ es. events_text w first es ++ end) (own_events-alone s)
    ∙ ap (λ (t : State). events_text w first (unfold_script s) ++ w.end (printed_state t)) (last_state-alone s)
