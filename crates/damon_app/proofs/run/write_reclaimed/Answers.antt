use Rattle.std.proofs.Common.{sym}
use Rattle.std.proofs.lemmas.Result.{err_from_is_err_and}
use Rattle.live_commit.specs.SetupView.{value_of}
use Rattle.text_io.proofs.Lemmas.{EndsAtFault-none}
use Rattle.damon_app.proofs.Counting.{no_fault_of_memory}
use Rattle.damon_app.proofs.run.write_reclaimed.Goals as goal

pub write_played-requires-clause-opening : goal.write_played-requires-clause-opening
write_played-requires-clause-opening g c = c.in_ok-reclaimer.ensures.opening (value_of c.args.script.setup) (sym c.pages.ensures)

pub returns-in_err-reclaimer-clause-writes : goal.returns-in_err-reclaimer-clause-writes
returns-in_err-reclaimer-clause-writes g c =
    let p = err_from_is_err_and c.from_residual.result c.from_residual.ensures.1 in
    rw (p.1, p.2) (EndsAtFault-none (g.K.Sink.calls c.args.sink.now) no_fault_of_memory)
