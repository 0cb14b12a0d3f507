-- The events of a monitor with its pages, and where each fits.
use Rattle.std.specs.Prelude.{◌≡◌, ℕ, ◌*◌, ◌<◌, Bool, List, length, slice_index}
use Rattle.damon_types.specs.Space.{pages_of}
use Rattle.live_commit.specs.declared.phase.Phase.{Phase}
use Rattle.live_commit.specs.declared.phase.Phase.TheVariants.{Idle, Clearing, Armed, Checking, Void, Due}
use Rattle.live_commit.specs.Commit.{CommitValue}
use Rattle.damon_core.specs.Note.{hit}
use Rattle.damon_core.specs.State.{State, row_count}

-- A page is touched; random words prepare a pass; the next pick is cleared, or loaded with this result; a
-- pass is observed; an aggregation is carried out, with random words for its splits; a commit is asked for; the state
-- is shown.
pub data Event : Type 0 where
  touch : (page : ℕ) → Event
  prepare : (words : List ℕ) → Event
  clear : Event
  load : (hit : Bool) → Event
  observe : Event
  aggregate : (words : List ℕ) → Event
  commit : (parts : CommitValue) → Event
  show : Event

-- a clear comes next
abbrev pub IsClearing : Phase → Type 0
IsClearing (Clearing k) = Unit {0}
IsClearing _ = ⊥

-- a load comes next
abbrev pub IsLoading : Phase → ℕ → Type 0
IsLoading Armed rows = Unit {0}
IsLoading (Checking k) rows = k < rows
IsLoading _ rows = ⊥

-- the end of a pass comes next
abbrev pub IsObserving : Phase → ℕ → Type 0
IsObserving (Checking k) rows = k ≡ rows
IsObserving Void rows = Unit {0}
IsObserving _ rows = ⊥

-- the pick that is cleared next
abbrev pub clear_index : Phase → ℕ
clear_index (Clearing k) = k
clear_index _ = 0

-- the pick that is loaded next
abbrev pub load_index : Phase → ℕ
load_index (Checking k) = k
load_index _ = 0

-- the page that is loaded next
abbrev pub load_page : State → ℕ
load_page s = slice_index s.core.picks (load_index s.core.phase)

-- whether the next load is a hit
abbrev pub next_hit : State → Bool
next_hit s = hit s.notes (load_page s)

-- where an event fits, whatever the result of a load
abbrev pub Fits : State → Event → Type 0
Fits s (touch page) = page < pages_of s.core.space
Fits s (prepare words) = (s.core.phase ≡ Idle) × (length words ≡ row_count s.core)
Fits s clear = IsClearing s.core.phase
Fits s (load hit) = IsLoading s.core.phase (row_count s.core)
Fits s observe = IsObserving s.core.phase (row_count s.core)
Fits s (aggregate words) = (s.core.phase ≡ Due) × (length words ≡ 2 * s.core.attrs.max)
Fits s (commit parts) = Unit {0}
Fits s show = Unit {0}

-- the result of a load is that of its page
abbrev pub ByHit : State → Event → Type 0
ByHit s (load hit) = hit ≡ next_hit s
ByHit s _ = Unit {0}
