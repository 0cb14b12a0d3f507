use Rattle.std.proofs.Common.{◌≡◌, drop}
use Rattle.quota_goal.specs.Tuned.{all_given, untuned}
use Rattle.quota_goal.proofs.tuner.Tuner.new.Given as goal

abbrev pub invariant-loop-change : goal.invariant-loop-change
invariant-loop-change l = all_given (drop l.change-index l.setup.slots.list) l.tuner ≡ all_given l.setup.slots.list (untuned l.fn.goals)
