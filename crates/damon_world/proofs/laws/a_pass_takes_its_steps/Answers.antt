use Rattle.damon_world.proofs.Passing.{takes_its_steps}
use Rattle.damon_world.proofs.laws.a_pass_takes_its_steps.Goals as goal

pub returns : goal.returns
returns c = takes_its_steps
