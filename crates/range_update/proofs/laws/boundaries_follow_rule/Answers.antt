use Rattle.range_update.proofs.OrderLemmas.{rows_in_order}
use Rattle.range_update.proofs.KeptLemmas.{kept_is, kept_one}
use Rattle.range_update.proofs.laws.boundaries_follow_rule.Goals as goal

pub returns-clause-some : goal.returns-clause-some
returns-clause-some c = λ olds rows unit a b ordered tiling some. kept_is rows unit a b (rows_in_order olds rows ordered tiling) some

pub returns-clause-one : goal.returns-clause-one
returns-clause-one c = kept_one
