use Rattle.std.proofs.lemmas.Result.{err_from_is_err_and}
use Rattle.text_io.specs.declared.input.TheConstants.{INPUT_LIMIT}
use Rattle.damon_live.proofs.Ending.{out_of_memory}
use Rattle.damon_live.proofs.top.carry_out.Goals as goal

pub returns-in_err-run-clause-refused : goal.returns-in_err-run-clause-refused
returns-in_err-run-clause-refused g c =
    let p = err_from_is_err_and c.from_residual-in_err-run.result c.from_residual-in_err-run.ensures.1 in
    let taken = c.in_ok-script.ensures.taken in
    rw (p.1, p.2) (λ sink. out_of_memory INPUT_LIMIT
    (record { bytes = g.S.Source.left c.args.source.now; calls = g.S.Source.calls c.args.source.now })
    (record { bytes = g.S.Source.left c.take_script.new.source; calls = g.S.Source.calls c.take_script.new.source })
    sink (taken.reads, taken.calls))
