use Rattle.std.proofs.Common.{Err, List, ap, sym}
use Rattle.std.specs.Prelude.{◌++◌}
use Rattle.std.proofs.lemmas.Result.{err_from_is_err_and}
use Rattle.text_io.specs.declared.input.TheConstants.{INPUT_LIMIT}
use Rattle.damon_admin.specs.Lines.{ContextLine}
use Rattle.damon_admin.specs.Written.{texts_from}
use Rattle.damon_app.specs.declared.request.Request.TheVariants.{Admin}
use Rattle.damon_app.specs.StatusOf.{status_of_spelled}
use Rattle.damon_app.proofs.Answering.{not_read, not_spelled}
use Rattle.text_io.proofs.Lemmas.{EndsAtFault-error, EndsAtFault-none, EndsAtFault-not}
use Rattle.damon_app.proofs.admin.take_contexts.Goals as goal

pub returns-in_err-bytes-clause-refused : goal.returns-in_err-bytes-clause-refused
returns-in_err-bytes-clause-refused g c =
    let p = err_from_is_err_and c.from_residual.result c.from_residual.ensures.1 in
    let failed = c.in_err-bytes.ensures in
    rw (p.1, p.2) (λ sink. not_read INPUT_LIMIT Admin _ _ _ _ _ c.in_err-bytes.field-0.0 tt
    (λ e. failed.too_long (ap (λ x. Err x) e)) (λ e. failed.within (ap (λ x. Err x) e)) (EndsAtFault-error failed.reads) failed.calls (EndsAtFault-none sink.calls (λ no. no)))

pub returns-in_err-contexts-clause-refused : goal.returns-in_err-contexts-clause-refused
returns-in_err-contexts-clause-refused g c =
    let p = err_from_is_err_and c.from_residual-in_err-contexts.result c.from_residual-in_err-contexts.ensures.1 in
    let read = c.in_ok-bytes.ensures in
    rw (p.1, p.2) (λ sink. not_spelled INPUT_LIMIT Admin _ _ _ _ _ c.in_ok-bytes.bytes.items read.all read.end read.limit c.in_err-contexts.field-0.0 (EndsAtFault-not (λ e. cc e) (λ no. no) read.reads, read.calls) (EndsAtFault-none sink.calls (λ no. no)) tt
    (λ f e. ap status_of_spelled (rw e at c.in_err-contexts.ensures.fault)))

pub returns-clause-taken : goal.returns-clause-taken
returns-clause-taken g c =
    let read = c.in_ok-bytes.ensures in
    let new = c.in_ok-contexts.contexts in
    let said = c.in_ok-contexts.ensures.lines in
    record {
      bytes = c.in_ok-bytes.bytes.items;
      all = read.all;
      end = read.end;
      few = read.limit;
      wanted = (new.left, said, ap (λ (done : List ContextLine). texts_from (done ++ new.left) done new.left) (sym c.in_ok-contexts.ensures.first));
      status = ap status_of_spelled said;
      reads = EndsAtFault-not (λ e. cc e) (λ no. no) read.reads;
      calls = read.calls;
    }
