-- Steps of one kind.
use Rattle.std.specs.Prelude.{ℕ, ◌-◌, ◌≤◌, ◌<◌, max}
use Rattle.live_commit.specs.declared.phase.Phase.{Phase}
use Rattle.live_commit.specs.declared.phase.Phase.TheVariants.{Clearing, Armed, Checking}
use Rattle.damon_world.specs.Moment.{Moment, stepped_times}

-- how many steps of one kind come next: clears up to the last row, loads up to the last row, or one other step
abbrev pub steps_of_kind : Phase → ℕ → ℕ
steps_of_kind (Clearing k) rows = rows - k
steps_of_kind Armed rows = rows
steps_of_kind (Checking k) rows = max 1 (rows - k)
steps_of_kind _ rows = 1

-- a pass has begun to be cleared or checked: more steps of that kind may follow
abbrev pub IsAmid : Phase → Type 0
IsAmid (Clearing k) = Unit {0}
IsAmid (Checking k) = Unit {0}
IsAmid _ = ⊥

-- between two of the next n steps some of a pass's picks are cleared and some are not, or some are checked
abbrev pub AreAmid : ℕ → Moment → Type 0
AreAmid n m = (k : ℕ) → 1 ≤ k → k < n → IsAmid (stepped_times k m).state.core.phase
