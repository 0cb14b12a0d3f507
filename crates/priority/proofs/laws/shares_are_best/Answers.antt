use Rattle.priority.proofs.BestLemmas.{best, certified, shares_best}
use Rattle.priority.proofs.laws.shares_are_best.Goals as goal

pub returns : goal.returns
returns c = record { best = shares_best; certificate = certified; enough = best }
