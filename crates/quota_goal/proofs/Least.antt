-- The least of some numbers, one after the other.
use Rattle.std.proofs.Common.{◌≡◌, ℕ, ◌+◌, List, [], ◌∷◌, Some, None, drop, refl, sym, ap, ◌∙◌, arith}
use Rattle.std.specs.Prelude.{Option}
use Rattle.std.specs.List.{cons_option}
use Rattle.quota_goal.specs.declared.goals.Goal.{Goal}
use Rattle.quota_goal.specs.declared.moment.Moment.{Moment}
use Rattle.quota_goal.specs.Kept.{less}
use Rattle.quota_goal.specs.Tuned.{least_of, next_of, nexts}

-- with one more in front, if it is there
least_more : (o : Option ℕ) (ns : List ℕ) → least_of (cons_option o ns) ≡ less o (least_of ns)
least_more None ns = refl
least_more (Some n) [] = refl
least_more (Some n) (m ∷ ns) = refl

less_assoc : (a b c : Option ℕ) → less (less a b) c ≡ less a (less b c)
less_assoc None b c = refl
less_assoc (Some a) None c = refl
less_assoc (Some a) (Some b) None = refl
less_assoc (Some a) (Some b) (Some c) = ap (λ n. Some n) (omega arith)

-- one goal more
pub least_next_more : (slot : ℕ) (moment : Moment) (bytes top : ℕ) (goals : List Goal) (i : ℕ) (g : Goal) (so_far : Option ℕ)
    → drop i goals ≡ g ∷ drop (i + 1) goals
    → less (less so_far (next_of slot moment bytes top g)) (least_of (nexts (drop (i + 1) goals) slot moment bytes top))
    ≡ less so_far (least_of (nexts (drop i goals) slot moment bytes top))
least_next_more slot moment bytes top goals i g so_far next =
    less_assoc so_far (next_of slot moment bytes top g) (least_of (nexts (drop (i + 1) goals) slot moment bytes top))
    ∙ ap (λ o. less so_far o) (sym (least_more (next_of slot moment bytes top g) (nexts (drop (i + 1) goals) slot moment bytes top)))
    ∙ ap (λ gs. less so_far (least_of (nexts gs slot moment bytes top))) (sym next)
