use Rattle.std.proofs.Common.{ap, ◌∙◌}
use Rattle.live_commit.specs.SetupView.{value_of}
use Rattle.damon_core.specs.State.{opening}
use Rattle.tune_run.specs.Callbacks.{tuner_in}
use Rattle.tune_run.specs.Tops.{tops_of}
use Rattle.tune_run.proofs.Opening.{opening_tuner}
use Rattle.tune_run.proofs.tuned.TunedQuotas.new.Goals as goal

pub returns : goal.returns
returns g c =
    let v = value_of c.args.setup.now in
    record {
      opening = record {
        is =
            c.new.ensures
            ∙ opening_tuner c.args.goals v c.args.setup.now.sound
            ∙ ap (λ goals. tuner_in goals (tops_of (opening v).notes) (opening v)) c.requires.goals;
        free = tt;
      };
    }
