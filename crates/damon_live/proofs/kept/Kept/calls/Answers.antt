use Rattle.damon_live.proofs.Turns.{count_is}
use Rattle.damon_live.proofs.kept.Kept.calls.Goals as goal

pub returns : goal.returns
returns g c = count_is g.N.Named.script c.self.inside.machine c.args.self.now c.self.inside.counts.items _ c.args.controller c.count_of.result c.self.invariant.turns c.self.view_is c.deref.ensures.value c.count_of.ensures
