use Rattle.std.proofs.Common.{refl}
use Rattle.std.proofs.lemmas.Result.{err_from_is_err_and}
use Rattle.damon_control.specs.ScriptView.{said_by}
use Rattle.damon_app.specs.Answers.{ends_of}
use Rattle.damon_app.specs.Replay.{report_of}
use Rattle.text_io.specs.Ends.{Ends}
use Rattle.text_io.specs.declared.input.TheConstants.{INPUT_LIMIT}
use Rattle.damon_app.specs.declared.request.Request.TheVariants.{Report}
use Rattle.damon_app.proofs.Answering.{left_alone, not_written, written}
use Rattle.text_io.proofs.Lemmas.{EndsAtFault-error, EndsAtFault-not}
use Rattle.damon_app.proofs.replay.replay.Goals as goal

pub returns-in_err-script : goal.returns-in_err-script
returns-in_err-script g c =
    let p = err_from_is_err_and c.from_residual.result c.from_residual.ensures.1 in
    let sink : Ends = ends_of g.K.Sink.taken g.K.Sink.calls c.args.sink.now in
    rw (p.1, p.2) (left_alone INPUT_LIMIT (Report c.args.run) _ _ _ _ c.in_err-script.field-0.0 refl (c.in_err-script.ensures.refused c.args.run sink))

pub returns-in_err-write_report : goal.returns-in_err-write_report
returns-in_err-write_report g c =
    let p = err_from_is_err_and c.from_residual-in_err-write_report.result c.from_residual-in_err-write_report.ensures.1 in
    let failed = c.in_err-write_report.ensures in
    rw (p.1, p.2) (not_written INPUT_LIMIT (Report c.args.run) _ _ _ _ _ (report_of c.args.run (said_by c.in_ok-script.script)) (c.in_ok-script.ensures.taken c.args.run) c.in_err-write_report.field-0.0
    failed.answers (EndsAtFault-error failed.writes) failed.part)

pub returns : goal.returns
returns g c =
    written INPUT_LIMIT (Report c.args.run) _ _ _ _ _ (report_of c.args.run (said_by c.in_ok-script.script)) (c.in_ok-script.ensures.taken c.args.run) (EndsAtFault-not (λ e. cc e) (λ no. no) c.in_ok-write_report.ensures.writes) c.in_ok-write_report.ensures.all
