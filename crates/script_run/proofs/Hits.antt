-- The results of loads among the events of a script are those of their pages.
use Rattle.std.proofs.Common.{List, [], ◌∷◌, ◌++◌}
use Rattle.damon_core.specs.State.{State}
use Rattle.damon_core.specs.Event.{Event}
use Rattle.damon_core.specs.After.{after}
use Rattle.damon_core.specs.Reached.{AllByHit}

-- a prefix of events with true results
pub AllByHit-prefix : (s : State) (es fs : List Event) → AllByHit s (es ++ fs) → AllByHit s es
AllByHit-prefix s [] fs hit = tt
AllByHit-prefix s (e ∷ es) fs hit = (hit.0, AllByHit-prefix (after s e) es fs hit.1)
