use Rattle.std.proofs.Common.{◌≡◌, ◌≤◌, Err, ap, arith, refl, sym, ◌∙◌, subst}
use Rattle.std.proofs.lemmas.Result.{err_from_is_err_and}
use Rattle.text_io.specs.declared.input.TheConstants.{INPUT_LIMIT}
use Rattle.damon_core.specs.Reached.{CanOpen}
use Rattle.journal_text.specs.Reading.{read_journal}
use Rattle.journal_check.specs.Verified.{IsRunText}
use Rattle.damon_app.specs.Heating.{columns_in}
use Rattle.damon_app.specs.declared.request.Columns.{Columns}
use Rattle.damon_app.specs.declared.request.Columns.TheVariants.{Eight, Sixteen, SixtyFour}
use Rattle.damon_app.specs.declared.request.Request.TheVariants.{Heat}
use Rattle.damon_app.specs.StatusOf.{status_of_journal}
use Rattle.damon_app.proofs.Answering.{not_read, not_verified}
use Rattle.text_io.proofs.Lemmas.{EndsAtFault-error, EndsAtFault-none, EndsAtFault-not}
use Rattle.damon_app.proofs.heat.take_run.Goals as goal

pub returns-in_err-bytes-clause-refused : goal.returns-in_err-bytes-clause-refused
returns-in_err-bytes-clause-refused g c =
    let p = err_from_is_err_and c.from_residual.result c.from_residual.ensures.1 in
    let failed = c.in_err-bytes.ensures in
    rw (p.1, p.2) (λ columns sink. not_read INPUT_LIMIT (Heat columns) _ _ _ _ _ c.in_err-bytes.field-0.0 tt
    (λ e. failed.too_long (ap (λ x. Err x) e)) (λ e. failed.within (ap (λ x. Err x) e)) (EndsAtFault-error failed.reads) failed.calls (EndsAtFault-none sink.calls (λ no. no)))

pub returns-in_err-replayer-clause-refused : goal.returns-in_err-replayer-clause-refused
returns-in_err-replayer-clause-refused g c =
    let p = err_from_is_err_and c.from_residual-in_err-replayer.result c.from_residual-in_err-replayer.ensures.1 in
    let read = c.in_ok-bytes.ensures in
    rw (p.1, p.2) (λ columns sink. not_verified INPUT_LIMIT (Heat columns) _ _ _ _ _ c.in_ok-bytes.bytes.items read.all read.end read.limit c.in_err-replayer.field-0.0 (EndsAtFault-not (λ e. cc e) (λ no. no) read.reads, read.calls) (EndsAtFault-none sink.calls (λ no. no)) tt
    (λ n e. ap status_of_journal (subst (λ bs. read_journal bs ≡ Err n) c.deref.ensures.value (rw e at c.in_err-replayer.ensures.line))))

some_columns : (columns : Columns) → 1 ≤ columns_in columns
some_columns Eight = omega arith
some_columns Sixteen = omega arith
some_columns SixtyFour = omega arith

pub returns-clause-taken : goal.returns-clause-taken
returns-clause-taken g c =
    let read = c.in_ok-bytes.ensures in
    let run = c.in_ok-replayer.ensures.lawful in
    let is : IsRunText c.in_ok-bytes.bytes.items run.said = subst (λ bs. IsRunText bs run.said) c.deref.ensures.value run.run in
    let setup = is.lawful.spellable.setup in
    let can : CanOpen run.said.live.setup = record { space = setup.space; sound = setup.setup; order = setup.order } in
    let sums = λ (columns : Columns). c.heat_tables_add_up.ensures (columns_in columns) run.said.live run.said.journal (some_columns columns) can is.lawful.lawful.journal in
    record {
      said = run.said;
      leads = run.leads;
      taken = λ columns. record {
        bytes = c.in_ok-bytes.bytes.items;
        all = read.all;
        end = read.end;
        few = read.limit;
        wanted = (run.said, is, refl, sums columns);
        status = ap (λ bs. status_of_journal (read_journal bs)) (sym c.deref.ensures.value) ∙ ap status_of_journal run.run.read;
        reads = EndsAtFault-not (λ e. cc e) (λ no. no) read.reads;
        calls = read.calls;
      };
    }
