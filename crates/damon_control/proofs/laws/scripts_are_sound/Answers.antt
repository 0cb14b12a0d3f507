use Rattle.damon_control.proofs.TextLimits.{scripts_sound}
use Rattle.damon_control.proofs.laws.scripts_are_sound.Goals as goal

pub returns : goal.returns
returns c = record { sound = scripts_sound }
