use Rattle.std.proofs.Common.{subst}
use Rattle.script_run.proofs.Alone.{unfold-alone}
use Rattle.script_run.specs.Callbacks.{no_callbacks}
use Rattle.script_run.specs.Choices.{ChoosesBestFrom}
use Rattle.script_run.proofs.Fits.{nothing_fits}
use Rattle.script_run.proofs.laws.each_choice_is_best.Goals as goal

pub returns : goal.returns
returns c s sound =
    subst (ChoosesBestFrom s.setup) (unfold-alone s) (c.each_run_with_callbacks_is_bound.ensures.choices no_callbacks nothing_fits s sound)
