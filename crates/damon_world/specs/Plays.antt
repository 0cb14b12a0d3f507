-- What it means that a world plays events.
use Rattle.std.specs.Prelude.{List}
use Rattle.rand_core.specs.Stream.{Stream}
use Rattle.damon_core.specs.Event.{Event}
use Rattle.damon_core.specs.Reached.{AllFit, Reached, ReachedByHit}
use Rattle.damon_world.specs.Moment.{Moment, along}
use Rattle.damon_world.specs.Stands.{WorldView, StandsAt}

-- From each moment at which the world stood the events fit, and afterwards it stands at the moment after them. The
-- events may depend on the moment: on its state, and on the random words to come.
abbrev pub Plays : {R : Type 0} → (R → Stream) → WorldView R → WorldView R → (Moment → List Event) → Type 0
Plays stream old new events = (m : Moment) → Reached m.state → StandsAt stream old m → AllFit m.state (events m) × StandsAt stream new (along m (events m))

-- the same of the moments whose states are reached with the results of their pages: the world then stands at such a moment again
abbrev pub PlaysByHit : {R : Type 0} → (R → Stream) → WorldView R → WorldView R → (Moment → List Event) → Type 0
PlaysByHit stream old new events = (m : Moment) → ReachedByHit m.state → StandsAt stream old m → ReachedByHit (along m (events m)).state × StandsAt stream new (along m (events m))
