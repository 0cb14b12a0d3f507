use Rattle.std.proofs.Common.{[], refl}
use Rattle.std.proofs.lemmas.Result.{err_from_is_err_and, on_ok_weaker}
use Rattle.damon_control.specs.ScriptView.{said_by}
use Rattle.text_io.proofs.Lemmas.{EndsAtFault-none}
use Rattle.damon_app.proofs.Counting.{no_fault_of_memory}
use Rattle.damon_app.proofs.run.write_played.Goals as goal

pub returns-in_err-player-clause-writes : goal.returns-in_err-player-clause-writes
returns-in_err-player-clause-writes g c =
    let p = err_from_is_err_and c.from_residual.result c.from_residual.ensures.1 in
    rw (p.1, p.2) (EndsAtFault-none (g.K.Sink.calls c.args.sink.now) no_fault_of_memory)

pub returns-clause-all : goal.returns-clause-all
returns-clause-all g c = on_ok_weaker c.hand_over.result (λ appends. appends _ (said_by c.args.script, c.args.form, [], c.in_ok-player.ensures, refl)) c.hand_over.ensures.all

pub returns-clause-part : goal.returns-clause-part
returns-clause-part g c = c.hand_over.ensures.part _ (said_by c.args.script, c.args.form, [], c.in_ok-player.ensures, refl)
