use Rattle.scheme_engine.proofs.OutcomeLemmas.{outcome_best}
use Rattle.scheme_engine.proofs.laws.outcome_is_best.Goals as goal

pub returns : goal.returns
returns c = record { best = outcome_best }
