-- The events of a script alone are those of its run without callbacks.
use Rattle.std.proofs.Common.{◌≡◌, ℕ, zero, suc, ◌+◌, ◌-◌, Bool, false, List, [], ◌∷◌, ◌++◌, map, refl, ap, ◌∙◌}
use Rattle.std.specs.Prelude.{if◌then◌else◌}
use Rattle.std.specs.List.{fold, range_with_len}
use Rattle.live_commit.specs.declared.phase.Phase.{Phase}
use Rattle.live_commit.specs.declared.phase.Phase.TheVariants.{Idle, Clearing, Armed, Checking, Void, Due}
use Rattle.damon_core.specs.Event.{Event, touch}
use Rattle.damon_world.specs.Moment.{Moment, moved, next_event}
use Rattle.damon_world.specs.Touches.{touches}
use Rattle.script_lines.specs.Command.{CommandValue, Touch, Sweep, Step, Arm, Finish, Show, Commit, pass_limit}
use Rattle.script_run.specs.declared.part.Until.{Until}
use Rattle.script_run.specs.declared.part.Until.TheVariants as until
use Rattle.script_run.specs.Going.{onward, plain}
use Rattle.script_run.specs.ScriptEvents.{EventsAreAlone, events_of, events_of_all, is_armed, is_idle, steps_to}
use Rattle.script_run.specs.Unfold.{command_events, commands_events, start, steps_until, stops_at}

fold_is : (m : Moment) (es : List Event) → fold moved m es ≡ onward plain m es
fold_is m [] = refl
fold_is m (e ∷ es) = fold_is (moved m e) es

touches_are : (page n : ℕ) → map (λ p. touch p) (range_with_len page n) ≡ touches page n
touches_are page zero = refl
touches_are page (suc n) = ap (λ es. touch page ∷ es) (touches_are (page + 1) n)

steps_are : (stops : Phase → Bool) (u : Until) → ((phase : Phase) → stops phase ≡ stops_at u phase) → (n : ℕ) (m : Moment) → steps_to stops n m ≡ steps_until plain u n m
steps_are stops u same zero m = refl
steps_are stops u same (suc n) m =
    let e = next_event m.state m.stream in
    (λ i. if same m.state.core.phase i then [] else e ∷ steps_are stops u same n (moved m e) i)

armed_is : (phase : Phase) → is_armed phase ≡ stops_at until.Armed phase
armed_is Idle = refl
armed_is (Clearing k) = refl
armed_is Armed = refl
armed_is (Checking k) = refl
armed_is Void = refl
armed_is Due = refl

idle_is : (phase : Phase) → is_idle phase ≡ stops_at until.Idle phase
idle_is Idle = refl
idle_is (Clearing k) = refl
idle_is Armed = refl
idle_is (Checking k) = refl
idle_is Void = refl
idle_is Due = refl

command_is : (cap : ℕ) (m : Moment) (c : CommandValue) → events_of cap m c ≡ command_events plain cap m c
command_is cap m (Touch page) = refl
command_is cap m (Sweep from to) = touches_are from (to - from)
command_is cap m (Step times) = steps_are (λ phase. false) until.Count (λ phase. refl) times m
command_is cap m Arm = steps_are is_armed until.Armed armed_is (pass_limit cap) m
command_is cap m Finish = steps_are is_idle until.Idle idle_is (pass_limit cap) m
command_is cap m Show = refl
command_is cap m (Commit parts) = refl

commands_are : (cap : ℕ) (m : Moment) (cs : List CommandValue) → events_of_all cap m cs ≡ commands_events plain cap m cs
commands_are cap m [] = refl
commands_are cap m (c ∷ cs) =
    let es = events_of cap m c in
    ap (λ (fs : List Event). es ++ fs) (commands_are cap (fold moved m es) cs)
    ∙ ap (λ (n : Moment). es ++ commands_events plain cap n cs) (fold_is m es)
    ∙ ap (λ (fs : List Event). fs ++ commands_events plain cap (onward plain m fs) cs) (command_is cap m c)

pub events_are_alone : EventsAreAlone
events_are_alone s = commands_are s.setup.cap (start s) s.commands
