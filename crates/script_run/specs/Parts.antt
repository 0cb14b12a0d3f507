-- Commands as parts: what is made of a command is its events, and what is left of it is again a part.
use Rattle.std.specs.Prelude.{ℕ, ◌-◌, ◌||◌, ◌==◌, Bool, false, List, [], ◌∷◌, ◌++◌, map}
use Rattle.live_commit.specs.declared.phase.Phase.{Phase}
use Rattle.damon_core.specs.Event.{Event, commit, show}
use Rattle.damon_world.specs.Touches.{touches}
use Rattle.script_lines.specs.Command.{CommandValue, Touch, Sweep, Step, Arm, Finish, Show, Commit, pass_limit}
use Rattle.script_run.specs.Going.{Going, onward}
use Rattle.script_run.specs.Part.{Part}
use Rattle.script_run.specs.Part as part
use Rattle.script_run.specs.declared.part.Until.TheVariants as until
use Rattle.script_run.specs.Unfold.{steps_until, stops_at}

-- whether no event of a part is left
abbrev pub is_done : Part → Phase → Bool
is_done (part.Touches page count) phase = count == 0
is_done (part.Steps until most) phase = (most == 0) || stops_at until phase
is_done part.Show phase = false
is_done (part.Commit parts) phase = false

-- a command before its first event, under a cap
abbrev pub part_of : ℕ → CommandValue → Part
part_of cap (Touch page) = part.Touches page 1
part_of cap (Sweep from to) = part.Touches from (to - from)
part_of cap (Step times) = part.Steps until.Count times
part_of cap Arm = part.Steps until.Armed (pass_limit cap)
part_of cap Finish = part.Steps until.Idle (pass_limit cap)
part_of cap Show = part.Show
part_of cap (Commit parts) = part.Commit parts

-- commands before their first event
abbrev pub parts_of : ℕ → List CommandValue → List Part
parts_of cap commands = map (part_of cap) commands

-- the events of a part, from a place of a run
abbrev pub part_events : {A : Type 0} → Going A → A → Part → List Event
part_events g a (part.Touches page count) = touches page count
part_events g a (part.Steps until most) = steps_until g until most a
part_events g a part.Show = show ∷ []
part_events g a (part.Commit parts) = commit parts ∷ []

-- the same of parts one after another
abbrev pub parts_events : {A : Type 0} → Going A → A → List Part → List Event
parts_events g a [] = []
parts_events g a (p ∷ ps) = let es = part_events g a p in es ++ parts_events g (onward g a es) ps
