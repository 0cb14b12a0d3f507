-- A state with the random words that are still to come, and the next step from it.
use Rattle.std.specs.Prelude.{◌≡◌, ℕ, true, false, zero, suc, ◌*◌, ◌==◌, List, [], ◌∷◌, length, slice_index, if◌then◌else◌}
use Rattle.rand_core.specs.Stream.{Stream}
use Rattle.live_commit.specs.declared.phase.Phase.{Phase}
use Rattle.live_commit.specs.declared.phase.Phase.TheVariants.{Idle, Clearing, Armed, Checking, Void, Due}
use Rattle.damon_core.specs.State.{State, row_count}
use Rattle.damon_core.specs.Event.{Event, prepare, clear, load, observe, aggregate, load_page, next_hit}
use Rattle.damon_core.specs.After.{after}
use Rattle.sampler.specs.Draws.{drawn, drawn_rest}
use Rattle.damon_world.specs.declared.world.Stepped.{Stepped}
use Rattle.damon_world.specs.declared.world.Stepped.TheVariants.{Prepared, Cleared, Loaded, Observed, Aggregated}

-- a state, and the random words from there on
pub record Moment : Type 0 where
  pub state : State
  pub stream : Stream

-- the event of the next step, with the next random words and the true result of a load
abbrev pub event_in : Phase → State → Stream → Event
event_in Idle s stream = prepare (drawn (row_count s.core) stream)
event_in (Clearing k) s stream = clear
event_in Armed s stream = load (next_hit s)
event_in (Checking k) s stream = if k == row_count s.core then observe else load (next_hit s)
event_in Void s stream = observe
event_in Due s stream = aggregate (drawn (2 * s.core.attrs.max) stream)

-- the event of the next step from a state
abbrev pub next_event : State → Stream → Event
next_event s stream = event_in s.core.phase s stream

-- what a step tells of what it did
abbrev pub Tells : Phase → State → Stepped → Type 0
Tells Idle s told = told ≡ Prepared
Tells (Clearing k) s told = told ≡ Cleared (slice_index s.core.picks k)
Tells Armed s told = told ≡ Loaded (load_page s) (next_hit s)
Tells (Checking k) s told = told ≡ (if k == row_count s.core then Observed false else Loaded (load_page s) (next_hit s))
Tells Void s told = told ≡ Observed true
Tells Due s told = told ≡ Aggregated

-- how many random words an event takes
abbrev pub drawn_by : Event → ℕ
drawn_by (prepare words) = length words
drawn_by (aggregate words) = length words
drawn_by _ = 0

-- the moment after an event
abbrev pub moved : Moment → Event → Moment
moved m e = record { state = after m.state e; stream = drawn_rest (drawn_by e) m.stream }

-- the moment after events
abbrev pub along : Moment → List Event → Moment
along m [] = m
along m (e ∷ es) = along (moved m e) es

-- the moment after the next step
abbrev pub stepped : Moment → Moment
stepped m = moved m (next_event m.state m.stream)

-- the events of the next n steps, in order
abbrev pub events_of_steps : ℕ → Moment → List Event
events_of_steps zero m = []
events_of_steps (suc n) m = let e = next_event m.state m.stream in e ∷ events_of_steps n (moved m e)

-- the moment after the next n steps
abbrev pub stepped_times : ℕ → Moment → Moment
stepped_times n m = along m (events_of_steps n m)
