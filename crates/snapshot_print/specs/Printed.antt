-- What is printed of a state, and of a monitor that stands for it.
use Rattle.std.specs.Prelude.{ℕ, List}
use Rattle.scheme_engine.specs.Slots.{SlotValue}
use Rattle.damon_core.specs.Slots.{slots_of}
use Rattle.damon_core.specs.State.{Core, State}
use Rattle.damon_core.specs.Stands.{MonitorView}
use Rattle.damon_core.specs.Totals.{checks_made, hits_made}

-- what is printed: what a monitor shows, its slots, and the checks and hits of all finished passes
pub record Printed : Type 0 where
  pub core : Core
  pub slots : List SlotValue
  pub checks : ℕ
  pub hits : ℕ

-- what is printed of a state
abbrev pub printed_state : State → Printed
printed_state s = record { core = s.core; slots = slots_of s.notes; checks = checks_made s.notes; hits = hits_made s.notes }

-- what is printed of a monitor
abbrev pub printed_monitor : MonitorView → Printed
printed_monitor m = record { core = m.core; slots = m.slots; checks = m.checks; hits = m.hits }
