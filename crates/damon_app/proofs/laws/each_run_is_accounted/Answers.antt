use Rattle.damon_app.proofs.Runs.{of_each_run}
use Rattle.reclaim_run.specs.Along.{IsReclaimedRun}
use Rattle.damon_app.proofs.laws.each_run_is_accounted.Goals as goal

pub returns : goal.returns
returns c = record {
  runs = of_each_run IsReclaimedRun c.generated_scripts_are_sound.ensures c.each_reclaimed_run_is_accounted.ensures.runs;
  figures = c.each_reclaimed_run_is_accounted.ensures.figures;
}
