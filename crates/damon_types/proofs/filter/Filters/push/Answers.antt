use Rattle.std.proofs.Common.{arith}
use Rattle.damon_types.proofs.FilterLemmas.{IsPadded-set}
use Rattle.damon_types.proofs.filter.Filters.push.Goals as goal

pub invariant_of-self : goal.invariant_of-self
invariant_of-self c = IsPadded-set c.self.inside.places c.self.inside.len c.args.filter c.self.invariant (omega (arith, c.self.invariant.few, c.if-self-eq-MAX_FILTERS.false))
