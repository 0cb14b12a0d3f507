use Rattle.std.proofs.Common.{◌≡◌, Err, ap, sym, ◌∙◌, subst}
use Rattle.std.proofs.lemmas.Result.{err_from_is_err_and}
use Rattle.text_io.specs.declared.input.TheConstants.{INPUT_LIMIT}
use Rattle.journal_text.specs.Reading.{read_journal}
use Rattle.journal_check.specs.Verified.{IsVerified}
use Rattle.damon_app.specs.declared.request.Request.TheVariants.{Verify}
use Rattle.damon_app.specs.StatusOf.{status_of_journal}
use Rattle.damon_app.proofs.Answering.{not_read, not_verified, out_of_memory}
use Rattle.text_io.proofs.Lemmas.{EndsAtFault-error, EndsAtFault-none, EndsAtFault-not}
use Rattle.damon_app.proofs.replay.take_journal.Goals as goal

pub returns-in_err-bytes-clause-refused : goal.returns-in_err-bytes-clause-refused
returns-in_err-bytes-clause-refused g c =
    let p = err_from_is_err_and c.from_residual.result c.from_residual.ensures.1 in
    let failed = c.in_err-bytes.ensures in
    rw (p.1, p.2) (λ sink. not_read INPUT_LIMIT Verify _ _ _ _ _ c.in_err-bytes.field-0.0 tt
    (λ e. failed.too_long (ap (λ x. Err x) e)) (λ e. failed.within (ap (λ x. Err x) e)) (EndsAtFault-error failed.reads) failed.calls (EndsAtFault-none sink.calls (λ no. no)))

pub returns-in_err-counts-clause-refused : goal.returns-in_err-counts-clause-refused
returns-in_err-counts-clause-refused g c =
    let p = err_from_is_err_and c.from_residual-in_err-counts.result c.from_residual-in_err-counts.ensures.1 in
    let read = c.in_ok-bytes.ensures in
    rw (p.1, p.2) (λ sink. not_verified INPUT_LIMIT Verify _ _ _ _ _ c.in_ok-bytes.bytes.items read.all read.end read.limit c.in_err-counts.field-0.0 (EndsAtFault-not (λ e. cc e) (λ no. no) read.reads, read.calls) (EndsAtFault-none sink.calls (λ no. no)) tt
    (λ n e. ap status_of_journal (subst (λ bs. read_journal bs ≡ Err n) c.deref.ensures.value (rw e at c.in_err-counts.ensures.line))))

pub returns-in_err-line-clause-refused : goal.returns-in_err-line-clause-refused
returns-in_err-line-clause-refused g c =
    let p = err_from_is_err_and c.from_residual-in_err-line.result c.from_residual-in_err-line.ensures.1 in
    let read = c.in_ok-bytes.ensures in
    rw (p.1, p.2) (λ sink. out_of_memory INPUT_LIMIT Verify _ _ _ _ _ (EndsAtFault-not (λ e. cc e) (λ no. no) read.reads, read.calls) (EndsAtFault-none sink.calls (λ no. no)) tt)

pub returns-clause-taken : goal.returns-clause-taken
returns-clause-taken g c =
    let read = c.in_ok-bytes.ensures in
    let said = c.in_ok-counts.ensures.lawful.run in
    record {
      bytes = c.in_ok-bytes.bytes.items;
      all = read.all;
      end = read.end;
      few = read.limit;
      wanted = (c.in_ok-counts.counts, subst (λ bs. IsVerified bs c.in_ok-counts.counts) c.deref.ensures.value c.in_ok-counts.ensures.lawful, sym c.in_ok-line.ensures);
      status = ap (λ bs. status_of_journal (read_journal bs)) (sym c.deref.ensures.value) ∙ ap status_of_journal said.read;
      reads = EndsAtFault-not (λ e. cc e) (λ no. no) read.reads;
      calls = read.calls;
    }
