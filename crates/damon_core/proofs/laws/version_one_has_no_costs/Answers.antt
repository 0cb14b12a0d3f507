use Rattle.damon_core.proofs.VersionOne.{reached_of_one}
use Rattle.damon_core.proofs.laws.version_one_has_no_costs.Goals as goal

pub returns : goal.returns
returns c s reached one = reached_of_one s reached one
