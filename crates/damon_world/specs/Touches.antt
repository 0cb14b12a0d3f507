-- The events of touches.
use Rattle.std.specs.Prelude.{ℕ, zero, suc, ◌+◌, List, [], ◌∷◌}
use Rattle.damon_core.specs.Event.{Event, touch}

-- touches of the n pages that begin with this one, in ascending order
abbrev pub touches : ℕ → ℕ → List Event
touches page zero = []
touches page (suc n) = touch page ∷ touches (page + 1) n
