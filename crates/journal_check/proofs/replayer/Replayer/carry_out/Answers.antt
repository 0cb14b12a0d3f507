use Rattle.std.proofs.Common.{◌≡◌, sym, ap, ◌∙◌, subst}
use Rattle.damon_core.specs.Stands.{MonitorView}
use Rattle.journal_check.specs.Replayer.{IsOnWay, ReplayerView}
use Rattle.journal_check.proofs.OnWay.{phase_wants}
use Rattle.journal_check.proofs.replayer.Replayer.carry_out.Goals as goal

pub aggregate-requires-clause-due : goal.aggregate-requires-clause-due
aggregate-requires-clause-due c =
    let now : ReplayerView = c.args.self.now in
    let phase : c.phase.result ≡ now.monitor.core.phase =
    c.phase.ensures.phase
    ∙ (ap (λ (m : MonitorView). m.core.phase) c.monitor.ensures ∙ ap (λ (r : ReplayerView). r.monitor.core.phase) c.self.view_is)
    in
    phase_wants now (subst IsOnWay c.self.view_is c.self.invariant) (record { some = c.requires; no_call = sym c.is_at_call.ensures ∙ c.if-is_at_call.false }) (λ is. c.in_default.not-Idle (phase ∙ is))
    (λ is. c.in_default.not-Armed (phase ∙ is))
    (λ is. c.in_default.not-Void (phase ∙ is))
