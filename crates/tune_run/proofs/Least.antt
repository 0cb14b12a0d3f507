-- The least of the next bytes lies between the least of the bounds.
use Rattle.std.proofs.Common.{◌≡◌, ℕ, ◌≤◌, min, Bool, true, false, List, [], ◌∷◌, map, Option, Some, None, refl, sym, ap, subst, ◌∙◌, arith}
use Rattle.std.specs.Prelude.{◌==◌, ◌&&◌, cond, filter, if◌then◌else◌}
use Rattle.std.specs.List.{AllByRecursion, cons_option}
use Rattle.std.specs.Option.{is_some, option_map, unwrap_or}
use Rattle.std.proofs.lemmas.List.Elements.{All-filter, All-from_recursion, recursion_from_All}
use Rattle.region_list.specs.Shrink.{least}
use Rattle.quota_goal.specs.declared.goals.Goal.{Goal}
use Rattle.quota_goal.specs.declared.moment.Moment.{Moment}
use Rattle.quota_goal.specs.Goals.{IsGoal}
use Rattle.quota_goal.specs.Moment.{score_of}
use Rattle.quota_goal.specs.Next.{next}
use Rattle.quota_goal.specs.Tuned.{least_of, nexts}
use Rattle.quota_goal.proofs.Lemmas.{least_of_bounds, most_of_bounds}
use Rattle.tune_run.specs.Along.{LiesBetween, scored_goals}

pub kept_goals : (p : Goal → Bool) (goals : List Goal) → AllByRecursion IsGoal goals → AllByRecursion IsGoal (filter p goals)
kept_goals p goals each = recursion_from_All IsGoal (filter p goals) (All-filter p IsGoal goals (All-from_recursion IsGoal goals each))

-- the least of some numbers, and of others that are no less
least_le : (f h : Goal → ℕ) → ((g : Goal) → IsGoal g → f g ≤ h g) → (g : Goal) (gs : List Goal) → AllByRecursion IsGoal (g ∷ gs)
    → least (map f (g ∷ gs)) ≤ least (map h (g ∷ gs))
least_le f h each g [] all = each g all.0
least_le f h each g (k ∷ gs) all = omega (arith, each g all.0, least_le f h each k gs all.1)

module _ (slot : ℕ) (moment : Moment) (bytes top : ℕ) where
  -- the next bytes by a goal that is scored
  abbrev next_by : Goal → ℕ
  next_by g = next g bytes top (unwrap_or (score_of g.kind moment) 0)

  only_scored : (goals : List Goal) → nexts goals slot moment bytes top ≡ map next_by (scored_goals goals slot moment)
  only_scored [] = refl
  only_scored (g ∷ goals) = by_test (g.slot == slot) (score_of g.kind moment) refl (only_scored goals)
    where
      scored : List Goal
      scored = scored_goals goals slot moment

      by_test : (b : Bool) (o : Option ℕ) → score_of g.kind moment ≡ o → nexts goals slot moment bytes top ≡ map next_by scored
          → cons_option (if b then option_map (next g bytes top) o else None) (nexts goals slot moment bytes top)
          ≡ map next_by (cond (b && is_some o) (g ∷ scored) scored)
      by_test true None is rest = rest
      by_test true (Some score) is rest =
          ap (λ ns. next g bytes top score ∷ ns) rest ∙ ap (λ o. next g bytes top (unwrap_or o 0) ∷ map next_by scored) (sym is)
      by_test false o is rest = rest

  -- the bytes that follow lie between the bounds
  pub new_lies_between : (goals : List Goal) → AllByRecursion IsGoal goals
      → LiesBetween (scored_goals goals slot moment) top (unwrap_or (least_of (nexts goals slot moment bytes top)) bytes)
  new_lies_between goals each =
      subst (λ ns. LiesBetween (scored_goals goals slot moment) top (unwrap_or (least_of ns) bytes)) (sym (only_scored goals))
      (between (scored_goals goals slot moment) (kept_goals (λ g. (g.slot == slot) && is_some (score_of g.kind moment)) goals each))
    where
      between : (gs : List Goal) → AllByRecursion IsGoal gs → LiesBetween gs top (unwrap_or (least_of (map next_by gs)) bytes)
      between [] all = (tt, tt)
      between (g ∷ gs) all = (
        least_le (λ x. min x.low top) next_by (λ x is. least_of_bounds x bytes top (unwrap_or (score_of x.kind moment) 0)) g gs all,
        least_le next_by (λ x. min x.high top) (λ x is. most_of_bounds x bytes top (unwrap_or (score_of x.kind moment) 0) is.bounds) g gs all,
      )

  -- and are at most the top
  pub new_below : (goals : List Goal) → bytes ≤ top → unwrap_or (least_of (nexts goals slot moment bytes top)) bytes ≤ top
  new_below goals most = subst (λ ns. unwrap_or (least_of ns) bytes ≤ top) (sym (only_scored goals)) (by_scored (scored_goals goals slot moment))
    where
      by_scored : (gs : List Goal) → unwrap_or (least_of (map next_by gs)) bytes ≤ top
      by_scored [] = most
      by_scored (g ∷ []) = omega arith
      by_scored (g ∷ h ∷ gs) = omega arith

  -- by one scored goal alone
  pub one_scored : (goals : List Goal) (g : Goal) (score : ℕ) → scored_goals goals slot moment ≡ g ∷ [] → score_of g.kind moment ≡ Some score
      → least_of (nexts goals slot moment bytes top) ≡ Some (next g bytes top score)
  one_scored goals g score alone scored =
      ap least_of (only_scored goals ∙ ap (map next_by) alone) ∙ ap (λ o. Some (next g bytes top (unwrap_or o 0))) scored
