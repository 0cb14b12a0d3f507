-- What a monitor shows, and for which states it stands.
use Rattle.std.specs.Prelude.{◌≡◌, ℕ, ◌+◌, Bool, false, List, length, slice_index_or}
use Rattle.live_commit.specs.declared.phase.Phase.{Phase}
use Rattle.live_commit.specs.declared.phase.Phase.TheVariants.{Idle, Due}
use Rattle.damon_core.specs.Note.{was_hit}
use Rattle.damon_core.specs.Totals.{checks_made, hits_made}
use Rattle.scheme_engine.specs.Slots.{SlotValue}
use Rattle.damon_core.specs.Slots.{slots_of}
use Rattle.damon_core.specs.State.{Core, State}

-- A monitor: what it shows of its state, the results of the checks of the pass that was prepared last, the
-- checks and hits of all finished passes, and its slots.
pub record MonitorView : Type 0 where
  pub core : Core
  pub bits : List Bool
  pub checks : ℕ
  pub hits : ℕ
  pub slots : List SlotValue

-- the result of check k
abbrev pub bit_at : List Bool → ℕ → Bool
bit_at bits k = slice_index_or bits k false

-- the pass that was prepared last
abbrev pub last_pass : Phase → ℕ → ℕ
last_pass Idle ticks = ticks
last_pass Due ticks = ticks
last_pass _ ticks = ticks + 1

-- The monitor stands for the state: it shows the same, and each of its picks has a bit, which is the result of its check.
pub record Stands (m : MonitorView) (s : State) : Type 0 where
  pub same : m.core ≡ s.core
  pub each : length m.bits ≡ length m.core.picks
  pub results : (k : ℕ) → bit_at m.bits k ≡ was_hit s.notes (last_pass m.core.phase m.core.ticks) k
  pub checks : m.checks ≡ checks_made s.notes
  pub hits : m.hits ≡ hits_made s.notes
  pub slots : m.slots ≡ slots_of s.notes
