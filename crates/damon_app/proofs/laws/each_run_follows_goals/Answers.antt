use Rattle.damon_app.proofs.Runs.{of_each_run}
use Rattle.damon_app.proofs.SaidGoals.{said_goals}
use Rattle.tune_run.specs.Along.{IsTunedRun}
use Rattle.damon_app.proofs.laws.each_run_follows_goals.Goals as goal

pub returns : goal.returns
returns c = λ goals s said.
    let within = said_goals said.0 goals said.1 in
    of_each_run (IsTunedRun goals) c.generated_scripts_are_sound.ensures
    (λ s sound. c.each_tuned_run_follows_its_goals.ensures.runs goals s within sound) s
