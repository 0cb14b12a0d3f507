use Rattle.std.proofs.Common.{refl, subst}
use Rattle.std.specs.Io.KnownBytes.{Appends}
use Rattle.std.proofs.lemmas.Result.{err_from_is_err_and}
use Rattle.text_io.specs.Ends.{Ends}
use Rattle.text_io.specs.Taken.{WritesPart}
use Rattle.text_io.specs.declared.input.TheConstants.{INPUT_LIMIT}
use Rattle.damon_app.specs.Answers.{ends_of}
use Rattle.damon_app.specs.declared.request.Request.TheVariants.{Verify}
use Rattle.run_status.specs.declared.status.Status.TheVariants.{WriteFault}
use Rattle.damon_app.proofs.Answering.{left_alone, not_written, written}
use Rattle.text_io.proofs.Lemmas.{EndsAtFault-as, EndsAtFault-not}
use Rattle.damon_app.proofs.replay.check_journal.Goals as goal

pub returns-in_err-line : goal.returns-in_err-line
returns-in_err-line g c =
    let p = err_from_is_err_and c.from_residual.result c.from_residual.ensures.1 in
    let sink : Ends = ends_of g.K.Sink.taken g.K.Sink.calls c.args.sink.now in
    rw (p.1, p.2) (left_alone INPUT_LIMIT Verify _ _ _ _ c.in_err-line.field-0.0 refl (c.in_err-line.ensures.refused sink))

pub returns-in_err-write_all : goal.returns-in_err-write_all
returns-in_err-write_all g c =
    let p = err_from_is_err_and c.from_residual-in_err-write_all.result c.from_residual-in_err-write_all.ensures.1 in
    let taken = g.K.Sink.taken in
    rw (p.1, p.2) (not_written INPUT_LIMIT Verify _ _ _ _ _ c.in_ok-line.line.items c.in_ok-line.ensures.taken WriteFault tt
    (EndsAtFault-as (λ e. refl) (λ e. refl) c.in_err-write_all.ensures.writes)
    (subst (WritesPart (taken c.args.sink.now) (taken c.write_all.new.sink)) c.deref.ensures.value c.in_err-write_all.ensures.part))

pub returns : goal.returns
returns g c =
    let taken = g.K.Sink.taken in
    written INPUT_LIMIT Verify _ _ _ _ _ c.in_ok-line.line.items c.in_ok-line.ensures.taken
    (EndsAtFault-not (λ e. cc e) (λ no. no) c.in_ok-write_all.ensures.writes)
    (subst (Appends (taken c.args.sink.now) (taken c.write_all.new.sink)) c.deref.ensures.value c.in_ok-write_all.ensures.all)
