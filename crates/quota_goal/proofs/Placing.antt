-- Goals in their places.
use Rattle.std.proofs.Common.{ℕ, ◌+◌, ◌<◌, List, [], ◌∷◌, ◌++◌, take, sym, subst, ◌∙◌, arith}
use Rattle.std.specs.Prelude.{slice_set}
use Rattle.std.specs.List.{AllByRecursion}
use Rattle.std.proofs.lemmas.List.{take_more_set, length-set}
use Rattle.quota_goal.specs.declared.goals.Goal.{Goal}
use Rattle.quota_goal.specs.Goals.{IsGoal}
use Rattle.quota_goal.specs.Kept.{AreGoals}

-- one goal more, at the end
each_more : (goals : List Goal) (g : Goal) → AllByRecursion IsGoal goals → IsGoal g → AllByRecursion IsGoal (goals ++ g ∷ [])
each_more [] g each is = (is, tt)
each_more (first ∷ goals) g each is = (each.0, each_more goals g each.1 is)

-- a goal in the first place without one
pub one_more : (places : List Goal) (len : ℕ) (g : Goal) → AreGoals places len → IsGoal g → len < 16 → AreGoals (slice_set places len g) (len + 1)
one_more places len g are is below = record {
  count = length-set places len g ∙ are.count;
  few = omega arith;
  each = subst (λ (goals : List Goal). AllByRecursion IsGoal goals) (sym (take_more_set places len g (omega (arith, are.count)))) (each_more (take len places) g are.each is);
}
