-- What the code of callbacks is told, and what it makes of it.
use Rattle.std.specs.Prelude.{◌≡◌, ℕ, ◌^◌, ◌<◌, List, Result}
use Rattle.live_commit.specs.Commit.{CommitValue}
use Rattle.live_commit.specs.declared.fault.CommitFault.{CommitFault}
use Rattle.damon_core.specs.declared.changed.Changed.{Changed}
use Rattle.damon_core.specs.After.{after}
use Rattle.damon_core.specs.Commit.{commit_answer}
use Rattle.damon_core.specs.Event.{Event, Fits, aggregate}
use Rattle.damon_core.specs.Reached.{AllFit, Reached, run}
use Rattle.damon_core.specs.Stands.{MonitorView, Stands}
use Rattle.damon_core.specs.State.{State}

-- the events fit from a reached state for which the callbacks stand, with some memory
abbrev pub MayFollow : (List ℕ → State → Type 0) → List Event → Type 0
MayFollow stands es = (memory : List ℕ) × (s : State) × Reached s × stands memory s × AllFit s es

-- The callbacks followed events of which nothing is remembered: where they stood for a reached state from which these fit, they
-- stand for the state after, with the same memory.
abbrev pub Follows : {C : Type 0} → (C → List ℕ → State → Type 0) → C → C → List Event → Type 0
Follows stands old new es = (memory : List ℕ) (s : State) → Reached s → stands old memory s → AllFit s es → stands new memory (run s es)

-- An aggregation of a reached state for which the callbacks stand, with these random words, after which the monitor stands. The passes
-- in all are below 2^40.
pub record IsAggregated (stands : List ℕ → State → Type 0) (monitor : MonitorView) (memory : List ℕ) (s : State) (words : List ℕ) : Type 0 where
  pub reached : Reached s
  pub stood : stands memory s
  pub fits : Fits s (aggregate words)
  pub shows : Stands monitor (after s (aggregate words))
  pub few : s.core.ticks < 2 ^ 40

-- a commit in a reached state for which the callbacks stand, with this answer
pub record IsCommitted (stands : List ℕ → State → Type 0) (parts : CommitValue) (answer : Result Changed CommitFault) (memory : List ℕ) (s : State) : Type 0 where
  pub reached : Reached s
  pub stood : stands memory s
  pub is : answer ≡ commit_answer parts s.core
