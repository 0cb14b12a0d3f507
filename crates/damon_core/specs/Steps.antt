-- The steps of a pass among all events.
use Rattle.std.specs.Prelude.{◌≡◌, ◌≢◌, ℕ, ◌+◌, ◌*◌, Bool, true, false, List, [], ◌∷◌, ◌++◌, length, map, filter}
use Rattle.damon_types.specs.Span.{spans}
use Rattle.live_commit.specs.declared.phase.Phase.TheVariants.{Void}
use Rattle.damon_core.specs.State.{State, row_count}
use Rattle.damon_core.specs.Event.{Event, touch, prepare, load, observe, commit, show}
use Rattle.damon_core.specs.Reached.{AllFit, run}
use Rattle.damon_core.specs.Several.{clears}

-- whether an event is a step of the monitor: all are, but touches, commits and shows
abbrev pub is_step : Event → Bool
is_step (touch page) = false
is_step (commit parts) = false
is_step show = false
is_step _ = true

-- the steps among events, in order
abbrev pub steps_of : List Event → List Event
steps_of events = filter is_step events

-- no pass ends among the events
abbrev pub NoneEnds : List Event → Type 0
NoneEnds [] = Unit {0}
NoneEnds (observe ∷ events) = ⊥
NoneEnds (_ ∷ events) = NoneEnds events

-- the steps of a pass over this many rows
abbrev pub pass_steps : ℕ → ℕ
pass_steps rows = 2 * rows + 2

-- The events are those of a pass: it is prepared, the pick of each row is cleared, each is loaded, and the pass is
-- observed.
pub record IsPass (rows : ℕ) (events : List Event) : Type 0 where
  pub words : List ℕ
  pub hits : List Bool
  pub each : length hits ≡ rows
  pub are : events ≡ prepare words ∷ (clears rows ++ map (λ hit. load hit) hits ++ observe ∷ [])

-- A pass is prepared in a state and ends after these events, with others between its steps: it is not void when it ends.
pub record EndsPass (s : State) (words : List ℕ) (events : List Event) : Type 0 where
  pub fit : AllFit s (prepare words ∷ (events ++ observe ∷ []))
  pub first : NoneEnds events
  pub counts : (run s (prepare words ∷ events)).core.phase ≢ Void

-- The steps among them are those of a pass over the rows at its start, which lie at its end where they did.
pub record TakesItsSteps (s : State) (words : List ℕ) (events : List Event) : Type 0 where
  pub pass : IsPass (row_count s.core) (steps_of (prepare words ∷ (events ++ observe ∷ [])))
  pub count : length (steps_of (prepare words ∷ (events ++ observe ∷ []))) ≡ pass_steps (row_count s.core)
  pub rows : spans (run s (prepare words ∷ events)).core.regions.rows ≡ spans s.core.regions.rows
