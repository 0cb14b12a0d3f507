-- Ranges in order.
use Rattle.std.proofs.Common.{◌≡◌, ℕ, suc, ◌+◌, ◌<◌, List, ◌∷◌, Some, length, drop, sym, ap, ◌∙◌, add-one}
use Rattle.std.specs.Prelude.{slice_get}
use Rattle.std.proofs.Math.Seq.{drop-cons}
use Rattle.std.proofs.lemmas.Option.{get_or_from_slice_get}
use Rattle.damon_types.specs.declared.range.Range.{Range}

-- the ranges from index i on: the one there and the others
pub drop_next : (gs : List Range) (i : ℕ) (g : Range) → i < length gs → slice_get gs i ≡ Some g → drop i gs ≡ g ∷ drop (i + 1) gs
drop_next gs i g here is = drop-cons gs i g here ∙ ap (λ x. x ∷ drop (suc i) gs) (get_or_from_slice_get gs i g g is) ∙ ap (λ n. g ∷ drop n gs) (sym (add-one i))
