use Rattle.std.proofs.lemmas.Result.{err_from_is_err_and}
use Rattle.journal_check.proofs.Judged.{fault_is_unlawful, read_is_lawful}
use Rattle.journal_check.proofs.verifying.verify.Goals as goal

pub returns-clause-lawful : goal.returns-clause-lawful
returns-clause-lawful c = read_is_lawful c.read_journals_are_lawful.ensures.law c.woven_runs.ensures c.hits_are_few.ensures c.args.bytes.now _ _ c.requires c.in_ok-counts.ensures.read

pub returns-in_err-counts-clause-line : goal.returns-in_err-counts-clause-line
returns-in_err-counts-clause-line c =
    let p = err_from_is_err_and c.from_residual.result c.from_residual.ensures.1 in
    rw (p.1, p.2) c.in_err-counts.ensures.fault

pub returns-in_err-counts-clause-unlawful : goal.returns-in_err-counts-clause-unlawful
returns-in_err-counts-clause-unlawful c =
    let p = err_from_is_err_and c.from_residual.result c.from_residual.ensures.1 in
    rw (p.1, p.2) (fault_is_unlawful c.rejected_texts_are_unlawful.ensures c.args.bytes.now c.in_err-counts.field-0.0 c.in_err-counts.ensures.fault)
