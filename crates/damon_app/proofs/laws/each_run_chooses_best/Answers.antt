use Rattle.std.proofs.Common.{sym, subst}
use Rattle.damon_control.proofs.Lemmas.{scripts_sound, texts_read}
use Rattle.script_run.specs.Choices.{ChoosesBestFrom}
use Rattle.damon_app.proofs.laws.each_run_chooses_best.Goals as goal

pub returns : goal.returns
returns c = λ text s says.
    subst (ChoosesBestFrom s.setup) (sym (c.events_are_alone.ensures s)) (c.each_choice_is_best.ensures s (scripts_sound text s ((texts_read text s).1 says)))
