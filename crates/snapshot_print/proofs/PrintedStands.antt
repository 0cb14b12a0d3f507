-- What is printed of a monitor that stands for a state.
use Rattle.std.proofs.Common.{◌≡◌, ℕ, List, ap, ◌∙◌}
use Rattle.scheme_engine.specs.Slots.{SlotValue}
use Rattle.damon_core.specs.Slots.{slots_of}
use Rattle.damon_core.specs.Stands.{MonitorView, Stands}
use Rattle.damon_core.specs.State.{Core, State}
use Rattle.damon_core.specs.Totals.{checks_made}
use Rattle.snapshot_print.specs.Printed.{printed_monitor, printed_state}

-- what is printed of a monitor is what is printed of each state for which it stands
pub printed_monitor-stands : (m : MonitorView) (s : State) → Stands m s → printed_monitor m ≡ printed_state s
printed_monitor-stands m s stands =
    let core : printed_monitor m ≡ record { core = s.core; slots = m.slots; checks = m.checks; hits = m.hits } =
    ap (λ (c : Core). record { core = c; slots = m.slots; checks = m.checks; hits = m.hits }) stands.same in
    let slots : record { core = s.core; slots = m.slots; checks = m.checks; hits = m.hits } ≡ record { core = s.core; slots = slots_of s.notes; checks = m.checks; hits = m.hits } =
    ap (λ (ss : List SlotValue). record { core = s.core; slots = ss; checks = m.checks; hits = m.hits }) stands.slots in
    let checks : record { core = s.core; slots = slots_of s.notes; checks = m.checks; hits = m.hits } ≡ record { core = s.core; slots = slots_of s.notes; checks = checks_made s.notes; hits = m.hits } =
    ap (λ (n : ℕ). record { core = s.core; slots = slots_of s.notes; checks = n; hits = m.hits }) stands.checks in
    core ∙ slots ∙ checks ∙ ap (λ (n : ℕ). record { core = s.core; slots = slots_of s.notes; checks = checks_made s.notes; hits = n }) stands.hits
