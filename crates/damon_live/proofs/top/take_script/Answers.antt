use Rattle.std.proofs.Common.{◌≡◌, Err, ap, sym, ◌∙◌, subst}
use Rattle.std.proofs.lemmas.Result.{err_from_is_err_and}
use Rattle.damon_control.specs.LiveView.{live_said}
use Rattle.damon_control.specs.Script.{live_of}
use Rattle.damon_control.proofs.Lemmas.{live_scripts_sound}
use Rattle.text_io.specs.declared.input.TheConstants.{INPUT_LIMIT}
use Rattle.text_io.proofs.Lemmas.{EndsAtFault-error, EndsAtFault-not}
use Rattle.damon_live.proofs.Ending.{not_read, not_spelled, too_many}
use Rattle.damon_live.proofs.top.take_script.Goals as goal

pub returns-in_err-bytes-clause-refused : goal.returns-in_err-bytes-clause-refused
returns-in_err-bytes-clause-refused g c =
    let p = err_from_is_err_and c.from_residual.result c.from_residual.ensures.1 in
    let failed = c.in_err-bytes.ensures in
    rw (p.1, p.2) (λ sink. not_read INPUT_LIMIT
    (record { bytes = g.S.Source.left c.args.source.now; calls = g.S.Source.calls c.args.source.now })
    (record { bytes = g.S.Source.left c.read_all.new.source; calls = g.S.Source.calls c.read_all.new.source })
    sink c.in_err-bytes.field-0.0
    (λ e. failed.too_long (ap (λ x. Err x) e)) (λ e. failed.within (ap (λ x. Err x) e)) (EndsAtFault-error failed.reads) failed.calls)

pub returns-in_err-script-clause-refused : goal.returns-in_err-script-clause-refused
returns-in_err-script-clause-refused g c =
    let p = err_from_is_err_and c.from_residual-in_err-script.result c.from_residual-in_err-script.ensures.1 in
    let read = c.in_ok-bytes.ensures in
    rw (p.1, p.2) (λ sink. not_spelled INPUT_LIMIT
    (record { bytes = g.S.Source.left c.args.source.now; calls = g.S.Source.calls c.args.source.now })
    (record { bytes = g.S.Source.left c.read_all.new.source; calls = g.S.Source.calls c.read_all.new.source })
    sink c.in_ok-bytes.bytes.items read.all read.end read.limit c.in_err-script.field-0.0 (EndsAtFault-not (λ e. cc e) (λ no. no) read.reads, read.calls)
    (λ f e. subst (λ bs. live_of bs ≡ Err f) c.deref.ensures.value (rw e at c.in_err-script.ensures.fault)))

pub returns-in_err-check_passes-clause-refused : goal.returns-in_err-check_passes-clause-refused
returns-in_err-check_passes-clause-refused g c =
    let p = err_from_is_err_and c.from_residual-in_err-check_passes.result c.from_residual-in_err-check_passes.ensures.1 in
    let read = c.in_ok-bytes.ensures in
    let many = c.in_err-check_passes.ensures.err in
    rw (p.1, p.2, many.0) (λ sink. too_many INPUT_LIMIT
    (record { bytes = g.S.Source.left c.args.source.now; calls = g.S.Source.calls c.args.source.now })
    (record { bytes = g.S.Source.left c.read_all.new.source; calls = g.S.Source.calls c.read_all.new.source })
    sink c.in_ok-bytes.bytes.items read.all read.end read.limit (live_said c.in_ok-script.script) (EndsAtFault-not (λ e. cc e) (λ no. no) read.reads, read.calls)
    (ap live_of (sym c.deref.ensures.value) ∙ c.in_ok-script.ensures.script) many.1)

pub returns-clause-taken : goal.returns-clause-taken
returns-clause-taken g c =
    let read = c.in_ok-bytes.ensures in
    record {
      bytes = c.in_ok-bytes.bytes.items;
      all = read.all;
      end = read.end;
      few = read.limit;
      spells = ap live_of (sym c.deref.ensures.value) ∙ c.in_ok-script.ensures.script;
      reads = EndsAtFault-not (λ e. cc e) (λ no. no) read.reads;
      calls = read.calls;
    }

pub returns-clause-limits : goal.returns-clause-limits
returns-clause-limits g c = (live_scripts_sound c.in_ok-bytes.bytes.items (live_said c.in_ok-script.script) (ap live_of (sym c.deref.ensures.value) ∙ c.in_ok-script.ensures.script)).limits
