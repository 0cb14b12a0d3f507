-- The events of a script alone, by the moments along its run.
use Rattle.std.specs.Prelude.{◌≡◌, ℕ, zero, suc, ◌-◌, Bool, true, false, List, [], ◌∷◌, ◌++◌, map, if◌then◌else◌}
use Rattle.std.specs.List.{fold, range_with_len}
use Rattle.sampler.specs.Seeds.{seeded, words_from}
use Rattle.live_commit.specs.declared.phase.Phase.{Phase}
use Rattle.live_commit.specs.declared.phase.Phase.TheVariants.{Idle, Armed}
use Rattle.damon_core.specs.State.{opening}
use Rattle.damon_core.specs.Event.{Event, commit, show, touch}
use Rattle.damon_world.specs.Moment.{Moment, moved, next_event}
use Rattle.damon_control.specs.Script.{ScriptValue}
use Rattle.script_lines.specs.Command.{CommandValue, Touch, Sweep, Step, Arm, Finish, Show, Commit, pass_limit}
use Rattle.script_run.specs.Unfold.{unfold_script}

-- each pick of a pass is cleared
abbrev pub is_armed : Phase → Bool
is_armed Armed = true
is_armed _ = false

-- no pass is under way
abbrev pub is_idle : Phase → Bool
is_idle Idle = true
is_idle _ = false

-- at most n steps up to a phase at which they stop, each with the next random words
abbrev pub steps_to : (Phase → Bool) → ℕ → Moment → List Event
steps_to stops zero m = []
steps_to stops (suc n) m =
    let e = next_event m.state m.stream in
    if stops m.state.core.phase then [] else e ∷ steps_to stops n (moved m e)

-- the events of a command under a cap: touches, steps, a show or a commit; `arm` and `finish` step up to a phase
abbrev pub events_of : ℕ → Moment → CommandValue → List Event
events_of cap m (Touch page) = touch page ∷ []
events_of cap m (Sweep from to) = map (λ page. touch page) (range_with_len from (to - from))
events_of cap m (Step times) = steps_to (λ phase. false) times m
events_of cap m Arm = steps_to is_armed (pass_limit cap) m
events_of cap m Finish = steps_to is_idle (pass_limit cap) m
events_of cap m Show = show ∷ []
events_of cap m (Commit parts) = commit parts ∷ []

-- the same of commands one after another
abbrev pub events_of_all : ℕ → Moment → List CommandValue → List Event
events_of_all cap m [] = []
events_of_all cap m (c ∷ cs) = let es = events_of cap m c in es ++ events_of_all cap (fold moved m es) cs

-- the events of a script, from the opening of its setup and with the random words of its seed
abbrev pub script_events : ScriptValue → List Event
script_events s =
    events_of_all s.setup.cap (record { state = opening s.setup; stream = words_from (seeded s.seed) }) s.commands

-- they are those of its run without callbacks
abbrev pub EventsAreAlone : Type 0
EventsAreAlone = (s : ScriptValue) → script_events s ≡ unfold_script s
