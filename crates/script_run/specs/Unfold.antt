-- The events of a script.
use Rattle.std.specs.Prelude.{ℕ, zero, suc, ◌-◌, Bool, true, false, List, [], ◌∷◌, ◌++◌, if◌then◌else◌}
use Rattle.sampler.specs.Seeds.{seeded, words_from}
use Rattle.live_commit.specs.declared.phase.Phase.{Phase}
use Rattle.live_commit.specs.declared.phase.Phase.TheVariants.{Idle, Armed}
use Rattle.damon_core.specs.State.{opening}
use Rattle.damon_core.specs.Event.{Event, commit, show, touch}
use Rattle.damon_world.specs.Moment.{Moment, next_event}
use Rattle.damon_world.specs.Touches.{touches}
use Rattle.damon_control.specs.Script.{ScriptValue}
use Rattle.script_lines.specs.Command.{CommandValue, Touch, Sweep, Step, Arm, Finish, Show, Commit, pass_limit}
use Rattle.script_run.specs.Going.{Going, onward, plain}
use Rattle.script_run.specs.declared.part.Until.{Until}
use Rattle.script_run.specs.declared.part.Until.TheVariants as until

-- whether steps stop at a phase: those of `arm` where each pick of a pass is cleared, and those of `finish` where no pass is under way
abbrev pub stops_at : Until → Phase → Bool
stops_at until.Count phase = false
stops_at until.Armed Armed = true
stops_at until.Armed _ = false
stops_at until.Idle Idle = true
stops_at until.Idle _ = false

-- at most n steps that stop at a phase, from a place of a run, each with the next random words
abbrev pub steps_until : {A : Type 0} → Going A → Until → ℕ → A → List Event
steps_until g u zero a = []
steps_until g u (suc n) a =
    let m = g.moment a in
    let e = next_event m.state m.stream in
    if stops_at u m.state.core.phase then [] else e ∷ steps_until g u n (g.next a e)

-- the events of a command under a cap, from a place of a run: touches, steps up to a phase, a show or a commit
abbrev pub command_events : {A : Type 0} → Going A → ℕ → A → CommandValue → List Event
command_events g cap a (Touch page) = touch page ∷ []
command_events g cap a (Sweep from to) = touches from (to - from)
command_events g cap a (Step times) = steps_until g until.Count times a
command_events g cap a Arm = steps_until g until.Armed (pass_limit cap) a
command_events g cap a Finish = steps_until g until.Idle (pass_limit cap) a
command_events g cap a Show = show ∷ []
command_events g cap a (Commit parts) = commit parts ∷ []

-- the same of commands one after another
abbrev pub commands_events : {A : Type 0} → Going A → ℕ → A → List CommandValue → List Event
commands_events g cap a [] = []
commands_events g cap a (c ∷ cs) = let es = command_events g cap a c in es ++ commands_events g cap (onward g a es) cs

-- the moment before the first event
abbrev pub start : ScriptValue → Moment
start s = record { state = opening s.setup; stream = words_from (seeded s.seed) }

-- the events of a script
abbrev pub unfold_script : ScriptValue → List Event
unfold_script s = commands_events plain s.setup.cap (start s) s.commands
