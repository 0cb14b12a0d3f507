-- The states to which events lead.
use Rattle.std.specs.Prelude.{◌≡◌, List, [], ◌∷◌}
use Rattle.damon_types.specs.Ranges.{InOrder}
use Rattle.damon_types.specs.Space.{IsSpace}
use Rattle.live_commit.specs.Setup.{SetupValue, IsSetup}
use Rattle.damon_core.specs.State.{State, opening}
use Rattle.damon_core.specs.Event.{Event, Fits, ByHit}
use Rattle.damon_core.specs.After.{after}

-- the state after these events
abbrev pub run : State → List Event → State
run s [] = s
run s (e ∷ es) = run (after s e) es

-- each event fits where it stands
abbrev pub AllFit : State → List Event → Type 0
AllFit s [] = Unit {0}
AllFit s (e ∷ es) = Fits s e × AllFit (after s e) es

-- the result of each load is that of its page
abbrev pub AllByHit : State → List Event → Type 0
AllByHit s [] = Unit {0}
AllByHit s (e ∷ es) = ByHit s e × AllByHit (after s e) es

-- a setup within its limits, its space too, its ranges in order
pub record CanOpen (v : SetupValue) : Type 0 where
  pub space : IsSpace v.space
  pub sound : IsSetup v
  pub order : InOrder v.ranges

-- events that fit lead to the state, whatever the results of the loads
pub record Reached (s : State) : Type 0 where
  pub setup : SetupValue
  pub events : List Event
  pub can_open : CanOpen setup
  pub fit : AllFit (opening setup) events
  pub is : run (opening setup) events ≡ s

-- events that fit lead to the state, and the result of each load is that of its page
pub record ReachedByHit (s : State) : Type 0 where
  pub setup : SetupValue
  pub events : List Event
  pub can_open : CanOpen setup
  pub fit : AllFit (opening setup) events
  pub by_hit : AllByHit (opening setup) events
  pub is : run (opening setup) events ≡ s
