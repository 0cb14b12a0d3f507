use Rattle.std.proofs.Common.{List, []}
use Rattle.damon_core.specs.Event.{Event}
use Rattle.script_run.specs.Course.{Course, going_with}
use Rattle.script_run.specs.Going.{onward}
use Rattle.script_run.specs.RunWith.{start_with}
use Rattle.tune_run.specs.Callbacks.{tune_callbacks}
use Rattle.tune_run.proofs.Fitting.{fit_always}
use Rattle.tune_run.proofs.Running.{carried_to, follow, put_carried, puts_accepted, tuned_within}
use Rattle.tune_run.proofs.Scores.{stay}
use Rattle.tune_run.proofs.laws.each_tuned_run_follows_its_goals.Goals as goal

pub returns : goal.returns
returns c =
    record {
      runs = λ goals s each sound.
          let along = tune_callbacks goals in
          let at : List Event → Course = λ made. onward (going_with along) (start_with along s) made in
          let carried = carried_to goals s sound in
          record {
            bound = c.each_run_with_callbacks_is_bound.ensures.bound along (fit_always goals) s sound;
            choices = c.each_run_with_callbacks_is_bound.ensures.choices along (fit_always goals) s sound;
            accepted = λ made rest e own. puts_accepted goals (at made) e (carried made);
            first = (carried_to goals s sound []).held.below;
            tops = λ made rest e own puts later is. (put_carried goals (at made) e (carried made) puts later is).held.below;
            bounds = λ made rest e own. tuned_within goals (at made) e (carried made) each;
            follow = λ made rest e own. follow goals (at made) e (carried made);
            stay = λ made rest e own. stay goals (at made) e (carried made) each;
          };
      fit = fit_always;
      bound = λ goals s sound. c.each_run_with_callbacks_is_bound.ensures.bound (tune_callbacks goals) (fit_always goals) s sound;
      choices = λ goals s sound. c.each_run_with_callbacks_is_bound.ensures.choices (tune_callbacks goals) (fit_always goals) s sound;
      first = λ goals s sound. (carried_to goals s sound []).held.below;
    }
