-- What the owner of a run adds to it: callbacks after the aggregations and the commits of its script.
use Rattle.std.specs.Prelude.{◌≡◌, ℕ, List, []}
use Rattle.damon_core.specs.State.{State}
use Rattle.damon_core.specs.Event.{Event, Fits, prepare, clear, load, observe, aggregate, commit}
use Rattle.damon_core.specs.After.{after}
use Rattle.damon_core.specs.Reached.{AllByHit, AllFit, Reached}

-- What callbacks remember first, at the opening, and then of each event of the script, by the memory and the state before it; the
-- events that are put in directly after it, by the memory after it and the state before it; the text directly after the event's own
-- text, by the memory and the state after it; and the text after the last line, by the last ones. Nothing is remembered of the events
-- that are put in.
pub record Callbacks : Type 0 where
  pub first : State → List ℕ
  pub keeps : List ℕ → State → Event → List ℕ
  pub puts : List ℕ → State → Event → List Event
  pub writes : List ℕ → State → Event → List ℕ
  pub ends : List ℕ → State → List ℕ

-- callbacks that remember nothing and add nothing
abbrev pub no_callbacks : Callbacks
no_callbacks = record {
  first = λ s. [];
  keeps = λ memory s e. memory;
  puts = λ memory s e. [];
  writes = λ memory s e. [];
  ends = λ memory s. [];
}

-- the events that are put in directly after an event of the script
abbrev pub put_after : Callbacks → List ℕ → State → Event → List Event
put_after c memory s e = c.puts (c.keeps memory s e) s e

-- a step that is no aggregation
abbrev pub IsStep : Event → Type 0
IsStep (prepare words) = Unit {0}
IsStep clear = Unit {0}
IsStep (load hit) = Unit {0}
IsStep observe = Unit {0}
IsStep _ = ⊥

-- an event after which nothing is written: no aggregation
abbrev pub IsQuiet : Event → Type 0
IsQuiet (aggregate words) = ⊥
IsQuiet _ = Unit {0}

-- an event after which nothing is put in either: neither an aggregation nor a commit
abbrev pub IsAlone : Event → Type 0
IsAlone (aggregate words) = ⊥
IsAlone (commit parts) = ⊥
IsAlone _ = Unit {0}

-- what is remembered changes and events are put in after aggregations and commits alone, and text is written after
-- aggregations alone
pub record AddInPlace (c : Callbacks) : Type 0 where
  pub keeps : (memory : List ℕ) (s : State) (e : Event) → IsAlone e → c.keeps memory s e ≡ memory
  pub puts : (memory : List ℕ) (s : State) (e : Event) → IsAlone e → c.puts memory s e ≡ []
  pub writes : (memory : List ℕ) (s : State) (e : Event) → IsQuiet e → c.writes memory s e ≡ []

-- events fit from a state on, and the result of each load among them is that of its page
pub record FitByHit (s : State) (es : List Event) : Type 0 where
  pub fit : AllFit s es
  pub by_hit : AllByHit s es

-- whatever is remembered, events that are put in after an event that fits fit where they are put in
abbrev pub FitAlways : Callbacks → Type 0
FitAlways c = (memory : List ℕ) (s : State) (e : Event) → Reached s → Fits s e → FitByHit (after s e) (put_after c memory s e)
