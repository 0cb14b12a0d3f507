-- What the lock keeps.
use Rattle.std.specs.Prelude.{◌≡◌, ℕ, ◌≤◌, ◌==◌, List, [], ◌∷◌, length, sum_by, slice_index, slice_index_or, if◌then◌else◌}
use Rattle.std.specs.List.{flat_map, range_with_len}
use Rattle.damon_control.specs.Live.{CallValue, LiveValue, count_all}
use Rattle.damon_control.specs.declared.live.TheConstants.{MAX_CALLS}
use Rattle.run_journal.specs.declared.entry.Entry.{Entry}
use Rattle.run_journal.specs.declared.entry.Entry.TheVariants.{Call}
use Rattle.run_journal.specs.Phases.{IsFree}
use Rattle.run_journal.specs.Replay.{JournalValue, replay}
use Rattle.damon_live.specs.Machine.{call_in}

-- the index of a call of this controller, as a list of one
abbrev pub index_in : ℕ → Entry → List ℕ
index_in c (Call controller index answer) = if controller == c then index ∷ [] else []
index_in c _ = []

-- the indexes of the calls of a controller, in order
abbrev pub indexes : ℕ → List Entry → List ℕ
indexes c es = flat_map (index_in c) es

-- the calls of a controller that were made
abbrev pub calls_made : ℕ → JournalValue → ℕ
calls_made c j = length (indexes c j.entries)

-- the calls of a controller that a script asks for
abbrev pub calls_asked : ℕ → LiveValue → ℕ
calls_asked c v = length (slice_index_or v.controllers c [])

-- each controller has made its first calls, in order and once each, and no more than it has
abbrev pub CallsAreInOrder : LiveValue → JournalValue → Type 0
CallsAreInOrder v j =
    (c : ℕ) → (indexes c j.entries ≡ range_with_len 0 (calls_made c j)) × (calls_made c j ≤ calls_asked c v)

-- no controller made more calls than it has
abbrev pub AreCounts : List (List CallValue) → List ℕ → Type 0
AreCounts (l ∷ ls) (n ∷ ns) = (n ≤ length l) × AreCounts ls ns
AreCounts [] [] = Unit {0}
AreCounts _ _ = ⊥

-- each controller has made its first calls, by these counts, and none beside these is among the entries
pub record AreInTurn (v : LiveValue) (es : List Entry) (counts : List ℕ) : Type 0 where
  pub each : (c : ℕ) → indexes c es ≡ range_with_len 0 (slice_index counts c)
  pub within : AreCounts v.controllers counts
  pub all : sum_by call_in es ≡ sum_by (λ n. n) counts
  pub few : count_all v.controllers ≤ MAX_CALLS

-- what is kept: a machine at which the lock may be free
pub record IsKept (v : LiveValue) (j : JournalValue) (counts : List ℕ) : Type 0 where
  pub free : IsFree (replay v j).state.core.phase
  pub turns : AreInTurn v j.entries counts
