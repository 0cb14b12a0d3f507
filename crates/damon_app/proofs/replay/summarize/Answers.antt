use Rattle.std.proofs.Common.{refl}
use Rattle.std.proofs.lemmas.Result.{err_from_is_err_and}
use Rattle.text_io.proofs.Lemmas.{EndsAtFault-as, EndsAtFault-none, EndsAtFault-not}
use Rattle.damon_app.proofs.replay.summarize.Goals as goal

pub returns-in_err-line-clause-writes : goal.returns-in_err-line-clause-writes
returns-in_err-line-clause-writes g c =
    let p = err_from_is_err_and c.from_residual.result c.from_residual.ensures.1 in
    rw (p.1, p.2) (EndsAtFault-none (g.K.Sink.calls c.args.sink.now) (λ e. cc e))

pub returns-in_err-write_all-clause-writes : goal.returns-in_err-write_all-clause-writes
returns-in_err-write_all-clause-writes g c =
    let p = err_from_is_err_and c.from_residual-in_err-write_all.result c.from_residual-in_err-write_all.ensures.1 in
    rw (p.1, p.2) (EndsAtFault-as (λ e. refl) (λ e. refl) c.in_err-write_all.ensures.writes)

pub returns-clause-writes : goal.returns-clause-writes
returns-clause-writes g c = EndsAtFault-not (λ e. cc e) (λ e. cc e) c.in_ok-write_all.ensures.writes
