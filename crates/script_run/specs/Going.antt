-- How a run goes from event to event.
use Rattle.std.specs.Prelude.{List, [], ◌∷◌}
use Rattle.damon_core.specs.Event.{Event}
use Rattle.damon_world.specs.Moment.{Moment, moved}

-- A kind of run, by its places: the moment at which a place stands, and the place after an event of the script.
pub record Going (A : Type 0) : Type 0 where
  pub moment : A → Moment
  pub next : A → Event → A

-- the run of a script alone: its places are moments
abbrev pub plain : Going Moment
plain = record { moment = λ m. m; next = moved }

-- the place after events of the script
abbrev pub onward : {A : Type 0} → Going A → A → List Event → A
onward g a [] = a
onward g a (e ∷ es) = onward g (g.next a e) es
