use Rattle.std.proofs.Common.{arith}
use Rattle.quota_goal.proofs.Placing.{one_more}
use Rattle.quota_goal.proofs.goals.Goals.push.Goals as goal

pub invariant_of-self : goal.invariant_of-self
invariant_of-self c =
    one_more c.self.inside.places c.self.inside.len c.args.goal c.self.invariant (record { slot = c.requires.slot; target = c.requires.target; bounds = c.requires.bounds }) (omega (arith, c.self.invariant.few, c.if-self-eq-MAX_GOALS.false))
