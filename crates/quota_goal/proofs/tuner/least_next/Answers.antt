use Rattle.std.proofs.Common.{◌+◌, drop, ap, ◌∙◌}
use Rattle.std.proofs.lemmas.List.{drop_more}
use Rattle.std.proofs.lemmas.List.Elements.{All-from_recursion}
use Rattle.quota_goal.specs.Goals.{IsGoal}
use Rattle.quota_goal.specs.Kept.{less}
use Rattle.quota_goal.specs.Tuned.{least_of, nexts}
use Rattle.quota_goal.proofs.Least.{least_next_more}
use Rattle.quota_goal.proofs.tuner.least_next.Goals as goal

pub next_by-requires : goal.next_by-requires
next_by-requires c = All-from_recursion IsGoal c.args.goals.now c.requires c.loop-goal.goal-index _ c.loop-goal-test.true

pub loop-goal-preserved : goal.loop-goal-preserved
loop-goal-preserved c =
    let xs = c.args.goals.now in
    let i = c.loop-goal.goal-index in
    let rest = least_of (nexts (drop (i + 1) xs) c.args.slot c.args.moment.now c.args.bytes c.args.top) in
    ap (λ o. less o rest) (c.less-least.ensures ∙ ap (λ o. less c.loop-goal.least o) c.next_by.ensures)
    ∙ least_next_more c.args.slot c.args.moment.now c.args.bytes c.args.top xs i _ c.loop-goal.least (drop_more xs i _ c.loop-goal-test.true)
    ∙ c.loop-goal.invariant
