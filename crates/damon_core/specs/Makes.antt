-- What it means that a call makes events.
use Rattle.std.specs.Prelude.{List}
use Rattle.damon_core.specs.State.{State}
use Rattle.damon_core.specs.Event.{Event}
use Rattle.damon_core.specs.Reached.{AllFit, Reached, ReachedByHit, run}

-- In each state for which the object stood the events fit, and afterwards it stands for the state after them.
abbrev pub Makes : {O : Type 0} → (O → State → Type 0) → O → O → List Event → Type 0
Makes stands old new events = (s : State) → Reached s → stands old s → AllFit s events × stands new (run s events)

-- the same of the states that are reached with the results of their pages: the object then stands for such a state again
abbrev pub MakesByHit : {O : Type 0} → (O → State → Type 0) → O → O → List Event → Type 0
MakesByHit stands old new events = (s : State) → ReachedByHit s → stands old s → ReachedByHit (run s events) × stands new (run s events)
