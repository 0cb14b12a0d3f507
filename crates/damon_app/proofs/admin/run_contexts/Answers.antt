use Rattle.std.proofs.Common.{refl}
use Rattle.std.proofs.lemmas.Result.{err_from_is_err_and}
use Rattle.text_io.specs.Ends.{Ends}
use Rattle.text_io.specs.declared.input.TheConstants.{INPUT_LIMIT}
use Rattle.damon_admin.specs.Admin.{left_text}
use Rattle.damon_app.specs.Answers.{ends_of}
use Rattle.damon_app.specs.declared.request.Request.TheVariants.{Admin}
use Rattle.damon_app.proofs.Answering.{left_alone, not_written, written}
use Rattle.text_io.proofs.Lemmas.{EndsAtFault-error, EndsAtFault-not}
use Rattle.damon_app.proofs.admin.run_contexts.Goals as goal

pub returns-in_err-contexts : goal.returns-in_err-contexts
returns-in_err-contexts g c =
    let p = err_from_is_err_and c.from_residual.result c.from_residual.ensures.1 in
    let sink : Ends = ends_of g.K.Sink.taken g.K.Sink.calls c.args.sink.now in
    rw (p.1, p.2) (left_alone INPUT_LIMIT Admin _ _ _ _ c.in_err-contexts.field-0.0 refl (c.in_err-contexts.ensures.refused sink))

pub returns-in_err-write_output : goal.returns-in_err-write_output
returns-in_err-write_output g c =
    let p = err_from_is_err_and c.from_residual-in_err-write_output.result c.from_residual-in_err-write_output.ensures.1 in
    let failed = c.in_err-write_output.ensures in
    rw (p.1, p.2) (not_written INPUT_LIMIT Admin _ _ _ _ _ (left_text c.in_ok-contexts.contexts) c.in_ok-contexts.ensures.taken c.in_err-write_output.field-0.0
    failed.answers (EndsAtFault-error failed.writes) failed.part)

pub returns : goal.returns
returns g c =
    written INPUT_LIMIT Admin _ _ _ _ _ (left_text c.in_ok-contexts.contexts) c.in_ok-contexts.ensures.taken (EndsAtFault-not (λ e. cc e) (λ no. no) c.in_ok-write_output.ensures.writes) c.in_ok-write_output.ensures.all
