-- What a player keeps: none of it is promised to callers.
use Rattle.std.specs.Prelude.{◌≡◌, ℕ, ◌+◌, ◌≤◌, ◌^◌, List, [], ◌∷◌, ◌++◌}
use Rattle.rand_core.specs.Stream.{Stream}
use Rattle.damon_types.specs.Space.{pages_of}
use Rattle.damon_core.specs.Event.{Event}
use Rattle.damon_core.specs.Reached.{AllFit, Reached}
use Rattle.damon_core.specs.State.{State}
use Rattle.damon_world.specs.Moment.{along}
use Rattle.damon_world.specs.Stands.{WorldView}
use Rattle.snapshot_print.specs.Writing.{Writing}
use Rattle.script_run.specs.Callbacks.{Callbacks}
use Rattle.script_run.specs.Course.{Course}
use Rattle.script_run.specs.Part.{Part}
use Rattle.script_run.specs.Part as part
use Rattle.script_run.specs.Player.{PlayTogether, StandAt, left_in}
use Rattle.script_run.specs.Report.{events_text}
use Rattle.script_run.specs.RunWith.{text_from}

-- the pages of a part are below this number
abbrev pub IsPartWithin : ℕ → Part → Type 0
IsPartWithin pages (part.Touches page count) = page + count ≤ pages
IsPartWithin pages _ = Unit {0}

-- the same of each part
abbrev pub ArePartsWithin : ℕ → List Part → Type 0
ArePartsWithin pages [] = Unit {0}
ArePartsWithin pages (p ∷ ps) = IsPartWithin pages p × ArePartsWithin pages ps

-- a world and callbacks stand at some course whose state is reached
pub record StandSomewhere {R C : Type 0} (stream : R → Stream) (stands : C → List ℕ → State → Type 0) (w : WorldView R) (k : C) : Type 0 where
  pub course : Course
  pub reached : Reached course.moment.state
  pub here : StandAt stream stands w k course

-- The world and the callbacks stand at some reached course, the pages of the parts are pages of the world's space, and what is
-- left keeps the passes below 2^40.
pub record IsPlayer {R C : Type 0} (stream : R → Stream) (stands : C → List ℕ → State → Type 0) (w : WorldView R) (k : C) (parts : List Part) : Type 0 where
  pub somewhere : StandSomewhere stream stands w k
  pub within : ArePartsWithin (pages_of w.monitor.core.space) parts
  pub work : w.monitor.core.ticks + left_in parts ≤ 2 ^ 40

-- a world and callbacks made these events of the script together, with those that are put in, and the text grew by theirs
pub record IsMade {R C : Type 0} (stream : R → Stream) (c : Callbacks) (stands : C → List ℕ → State → Type 0) (w w' : WorldView R) (k k' : C)
    (writing : Writing) (before after : List ℕ) (events : Course → List Event) : Type 0 where
  pub plays : PlayTogether stream c stands w w' k k' events
  pub text : (r : Course) → Reached r.moment.state → StandAt stream stands w k r
      → after ≡ before ++ text_from c writing r (events r)

-- the course after events of which nothing is remembered
abbrev pub beyond : Course → List Event → Course
beyond r es = record { moment = along r.moment es; memory = r.memory }

-- a world and callbacks made these events together, which are put in, and the text grew by theirs
pub record ArePutIn {R C : Type 0} (stream : R → Stream) (stands : C → List ℕ → State → Type 0) (w w' : WorldView R) (k k' : C)
    (writing : Writing) (before after : List ℕ) (events : List Event) : Type 0 where
  pub plays : (r : Course) → Reached r.moment.state → StandAt stream stands w k r
      → AllFit r.moment.state events × StandAt stream stands w' k' (beyond r events)
  pub text : (r : Course) → Reached r.moment.state → StandAt stream stands w k r
      → after ≡ before ++ events_text writing r.moment.state events
