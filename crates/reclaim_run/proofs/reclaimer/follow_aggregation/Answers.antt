use Rattle.std.proofs.Common.{◌≡◌, ap, subst, ◌∙◌}
use Rattle.damon_types.specs.Space.{IsSpace}
use Rattle.damon_core.specs.Aggregate.{aggregated}
use Rattle.damon_core.specs.Report.{ReportValue}
use Rattle.reclaim_run.proofs.Aggregating.{few_go_out, runs_within, slots_after, slots_few, stands_after}
use Rattle.reclaim_run.proofs.reclaimer.follow_aggregation.Goals as goal

-- the runs are those that the monitor reports
shown : (c : goal.After-engine) → c.runs-runs.result.now ≡ c.args.monitor.now.core.report.runs
shown c = c.runs-runs.ensures.runs ∙ ap (λ (v : ReportValue). v.runs) c.report.ensures.report

pub apply_runs-requires-clause-slots : goal.apply_runs-requires-clause-slots
apply_runs-requires-clause-slots c =
    let told = c.requires in
    slots_few c.args.model.now c.args.monitor.now told.0 told.1 told.2 told.3 c.runs-runs.result.now (shown c)

pub apply_runs-requires-clause-within : goal.apply_runs-requires-clause-within
apply_runs-requires-clause-within c =
    let told = c.requires in
    runs_within c.args.model.now c.args.monitor.now told.0 told.1 told.2 told.3 c.runs-runs.result.now (shown c) c.report.ensures.runs_in_space

pub apply_runs-requires-clause-few : goal.apply_runs-requires-clause-few
apply_runs-requires-clause-few c =
    let told = c.requires in
    let old = c.args.model.now in
    let m = c.args.monitor.now in
    let space = subst IsSpace c.space.ensures c.targets-targets.ensures.sound in (
      (aggregated told.2 told.1).notes,
      slots_after old m told.0 told.1 told.2 told.3 c.engine.result.now.slots c.engine.ensures.slots,
      few_go_out old m told.0 told.1 told.2 told.3 c.runs-runs.result.now (shown c) space,
    )

pub returns : goal.returns
returns c memory s words is =
    let old = c.args.model.now in
    let m = c.args.monitor.now in
    let same = c.runs-runs.ensures.runs ∙ ap (λ (v : ReportValue). v.runs) c.report.ensures.report in
    let slots = slots_after old m memory s words is c.engine.result.now.slots c.engine.ensures.slots in
    stands_after old m memory s words is c.apply_runs.new.model c.runs-runs.result.now same (c.apply_runs.ensures (aggregated words s).notes slots)
