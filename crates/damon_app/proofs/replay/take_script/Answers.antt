use Rattle.std.proofs.Common.{◌≡◌, Err, Ok, ap, sym, ◌∙◌, refl, subst}
use Rattle.std.proofs.lemmas.Result.{err_from_is_err_and}
use Rattle.damon_control.specs.Script.{script_of}
use Rattle.damon_control.specs.ScriptView.{said_by}
use Rattle.damon_control.proofs.Lemmas.{texts_read}
use Rattle.text_io.specs.declared.input.TheConstants.{INPUT_LIMIT}
use Rattle.damon_app.specs.declared.request.Request.TheVariants.{Report}
use Rattle.damon_app.specs.StatusOf.{status_of_spelled}
use Rattle.damon_app.proofs.Answering.{not_read, not_spelled}
use Rattle.text_io.proofs.Lemmas.{EndsAtFault-error, EndsAtFault-none, EndsAtFault-not}
use Rattle.damon_app.proofs.replay.take_script.Goals as goal

pub returns-in_err-bytes-clause-refused : goal.returns-in_err-bytes-clause-refused
returns-in_err-bytes-clause-refused g c =
    let p = err_from_is_err_and c.from_residual.result c.from_residual.ensures.1 in
    let failed = c.in_err-bytes.ensures in
    rw (p.1, p.2) (λ run sink. not_read INPUT_LIMIT (Report run) _ _ _ _ _ c.in_err-bytes.field-0.0 tt
    (λ e. failed.too_long (ap (λ x. Err x) e)) (λ e. failed.within (ap (λ x. Err x) e)) (EndsAtFault-error failed.reads) failed.calls (EndsAtFault-none sink.calls (λ no. no)))

pub returns-in_err-script-clause-refused : goal.returns-in_err-script-clause-refused
returns-in_err-script-clause-refused g c =
    let p = err_from_is_err_and c.from_residual-in_err-script.result c.from_residual-in_err-script.ensures.1 in
    let read = c.in_ok-bytes.ensures in
    rw (p.1, p.2) (λ run sink. not_spelled INPUT_LIMIT (Report run) _ _ _ _ _ c.in_ok-bytes.bytes.items read.all read.end read.limit c.in_err-script.field-0.0 (EndsAtFault-not (λ e. cc e) (λ no. no) read.reads, read.calls) (EndsAtFault-none sink.calls (λ no. no)) tt
    (λ f e. ap status_of_spelled (subst (λ bs. script_of bs ≡ Err f) c.deref.ensures.value (rw e at c.in_err-script.ensures.fault))))

pub returns-clause-taken : goal.returns-clause-taken
returns-clause-taken g c =
    let read = c.in_ok-bytes.ensures in
    let spells : script_of c.in_ok-bytes.bytes.items ≡ Ok (said_by c.in_ok-script.script) = ap script_of (sym c.deref.ensures.value) ∙ c.in_ok-script.ensures.script in
    λ run. record {
      bytes = c.in_ok-bytes.bytes.items;
      all = read.all;
      end = read.end;
      few = read.limit;
      wanted = (said_by c.in_ok-script.script, (texts_read _ _).0 spells, refl);
      status = ap status_of_spelled spells;
      reads = EndsAtFault-not (λ e. cc e) (λ no. no) read.reads;
      calls = read.calls;
    }
