use Rattle.std.proofs.Common.{sym, ap, ◌∙◌, arith}
use Rattle.journal_check.specs.Kept.{is_call_at}
use Rattle.journal_check.specs.Replayer.{ReplayerView}
use Rattle.journal_check.proofs.OnWay.{first_call}
use Rattle.journal_check.proofs.replayer.Replayer.is_at_call.Goals as goal

pub returns-then-self-len : goal.returns-then-self-len
returns-then-self-len c =
    let s = c.self.inside in
    let first = first_call s.calls.items s.calls_done c.index.result.now (omega (arith, c.if-self-len.true, c.len.ensures)) c.index.ensures in
    sym (ap (is_call_at s.done) first) ∙ ap (λ (r : ReplayerView). is_call_at r.done r.calls) c.self.view_is
