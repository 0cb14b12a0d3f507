use Rattle.std.proofs.Common.{arith}
use Rattle.reclaim_run.specs.Reclaimed.{pages_in}
use Rattle.reclaim_module.proofs.Lemmas.{others_are_resident, out_by_last, since_last}
use Rattle.reclaim_run.proofs.Accounting.{each_is_accounted}
use Rattle.reclaim_run.proofs.laws.each_reclaimed_run_is_accounted.Goals as goal

pub returns : goal.returns
returns c =
    let runs = c.each_run_with_callbacks_is_bound.ensures in
    record {
      runs = each_is_accounted runs.bound runs.choices;
      figures = record {
        pages = λ s. omega (arith, others_are_resident (pages_in s) s.notes);
        out = λ notes page. (since_last notes page, out_by_last notes page);
      };
    }
