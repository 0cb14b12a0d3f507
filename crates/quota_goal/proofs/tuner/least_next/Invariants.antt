use Rattle.std.proofs.Common.{◌≡◌, drop}
use Rattle.quota_goal.specs.Kept.{less}
use Rattle.quota_goal.specs.Tuned.{least_of, nexts}
use Rattle.quota_goal.proofs.tuner.least_next.Given as goal

abbrev pub invariant-loop-goal : goal.invariant-loop-goal
invariant-loop-goal l =
    less l.least (least_of (nexts (drop l.goal-index l.goals) l.slot l.moment l.bytes l.top)) ≡ least_of (nexts l.goals l.slot l.moment l.bytes l.top)
