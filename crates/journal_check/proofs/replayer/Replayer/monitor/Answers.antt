use Rattle.std.proofs.Common.{sym, subst}
use Rattle.damon_core.specs.Stands.{MonitorView, Stands}
use Rattle.run_journal.specs.Replay.{replay}
use Rattle.journal_check.proofs.replayer.Replayer.monitor.Goals as goal

pub returns-clause-stands : goal.returns-clause-stands
returns-clause-stands c =
    let (states, last, way) = c.self.invariant in
    let state = (replay way.live way.journal).state in
    (state, way.carried_out.reached, subst (λ (m : MonitorView). Stands m state) (sym c.monitor.ensures) way.carried_out.stands)
