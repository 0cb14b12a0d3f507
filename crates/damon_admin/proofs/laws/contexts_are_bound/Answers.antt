use Rattle.damon_admin.proofs.Bounded.{bound_at}
use Rattle.damon_admin.proofs.laws.contexts_are_bound.Goals as goal

pub returns : goal.returns
returns c = record { bound = bound_at c.scripts_are_sound.ensures.sound c.each_script_is_bound.ensures }
