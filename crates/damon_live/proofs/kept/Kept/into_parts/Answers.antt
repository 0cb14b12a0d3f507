use Rattle.std.proofs.Common.{subst}
use Rattle.damon_live.specs.Kept.{CallsAreInOrder}
use Rattle.damon_live.proofs.Resting.{in_order}
use Rattle.damon_live.proofs.kept.Kept.into_parts.Goals as goal

pub returns-clause-calls : goal.returns-clause-calls
returns-clause-calls g c = subst (CallsAreInOrder g.N.Named.script) c.self.view_is (in_order g.N.Named.script c.self.inside.machine c.self.inside.counts.items c.self.invariant.turns)
