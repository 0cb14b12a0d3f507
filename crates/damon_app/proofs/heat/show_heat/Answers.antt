use Rattle.std.proofs.Common.{refl}
use Rattle.std.proofs.lemmas.Result.{err_from_is_err_and}
use Rattle.text_io.specs.Ends.{Ends}
use Rattle.text_io.specs.declared.input.TheConstants.{INPUT_LIMIT}
use Rattle.run_journal.specs.Aggregated.{aggregated}
use Rattle.run_journal.specs.Replay.{replay}
use Rattle.damon_app.specs.Answers.{ends_of}
use Rattle.damon_app.specs.declared.request.Request.TheVariants.{Heat}
use Rattle.damon_app.specs.Heating.{heat_text}
use Rattle.damon_app.proofs.Answering.{left_alone, not_written, written}
use Rattle.text_io.proofs.Lemmas.{EndsAtFault-error, EndsAtFault-not}
use Rattle.damon_app.proofs.heat.show_heat.Goals as goal

pub returns-in_err-replayer : goal.returns-in_err-replayer
returns-in_err-replayer g c =
    let p = err_from_is_err_and c.from_residual.result c.from_residual.ensures.1 in
    let sink : Ends = ends_of g.K.Sink.taken g.K.Sink.calls c.args.sink.now in
    rw (p.1, p.2) (left_alone INPUT_LIMIT (Heat c.args.columns) _ _ _ _ c.in_err-replayer.field-0.0 refl (c.in_err-replayer.ensures.refused c.args.columns sink))

pub returns-in_err-write_tables_in : goal.returns-in_err-write_tables_in
returns-in_err-write_tables_in g c =
    let p = err_from_is_err_and c.from_residual-in_err-write_tables_in.result c.from_residual-in_err-write_tables_in.ensures.1 in
    let failed = c.in_err-write_tables_in.ensures in
    let run = c.in_ok-replayer.ensures.taken in
    let states = aggregated run.said.live run.said.journal in
    let last = (replay run.said.live run.said.journal).state in
    rw (p.1, p.2) (not_written INPUT_LIMIT (Heat c.args.columns) _ _ _ _ _ (heat_text c.args.columns run.said) (run.taken c.args.columns) c.in_err-write_tables_in.field-0.0
    failed.answers (EndsAtFault-error failed.writes) (failed.part states last run.leads))

pub returns : goal.returns
returns g c =
    let run = c.in_ok-replayer.ensures.taken in
    let states = aggregated run.said.live run.said.journal in
    let last = (replay run.said.live run.said.journal).state in
    written INPUT_LIMIT (Heat c.args.columns) _ _ _ _ _ (heat_text c.args.columns run.said) (run.taken c.args.columns) (EndsAtFault-not (λ e. cc e) (λ no. no) c.in_ok-write_tables_in.ensures.writes)
    (c.in_ok-write_tables_in.ensures.all states last run.leads)
