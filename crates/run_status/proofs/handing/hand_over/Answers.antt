use Rattle.std.proofs.lemmas.Result.{err_from_is_err_and}
use Rattle.text_io.proofs.Lemmas.{EndsAtFault-not}
use Rattle.run_status.proofs.Pumps.{pump_ends, pump_writes}
use Rattle.run_status.proofs.handing.hand_over.Goals as goal

pub returns-in_err-pump-clause-answers : goal.returns-in_err-pump-clause-answers
returns-in_err-pump-clause-answers g c =
    let p = err_from_is_err_and c.from_residual.result c.from_residual.ensures.1 in
    rw (p.1, p.2) (pump_ends c.in_err-pump.field-0.0)

pub returns-in_err-pump-clause-writes : goal.returns-in_err-pump-clause-writes
returns-in_err-pump-clause-writes g c =
    let p = err_from_is_err_and c.from_residual.result c.from_residual.ensures.1 in
    rw (p.1, p.2) (pump_writes c.in_err-pump.field-0.0 c.in_err-pump.ensures.writes)

pub returns-clause-writes : goal.returns-clause-writes
returns-clause-writes g c = EndsAtFault-not (λ e. cc e) (λ e. cc e) c.in_ok-pump.ensures.writes
