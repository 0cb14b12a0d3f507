use Rattle.std.proofs.Common.{sym, subst}
use Rattle.damon_control.proofs.Lemmas.{scripts_sound, texts_read}
use Rattle.script_run.specs.BoundAlong.{IsBoundFrom}
use Rattle.damon_app.proofs.laws.each_run_is_bound.Goals as goal

pub returns : goal.returns
returns c = λ text s says.
    subst (IsBoundFrom s.setup) (sym (c.events_are_alone.ensures s)) (c.each_script_is_bound.ensures s (scripts_sound text s ((texts_read text s).1 says)))
