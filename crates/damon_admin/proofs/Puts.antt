-- A list of which one item is changed.
use Rattle.std.proofs.Common.{◌≡◌, ◌≢◌, ◌⊎◌, inl, inr, ℕ, ◌<◌, ◌==◌, Bool, true, false, List, length, Some, refl, sym, ap, ◌∙◌, arith, slice_set}
use Rattle.std.specs.Prelude.{get_or, slice_get}
use Rattle.std.proofs.lemmas.Bool.Decides.{nat_tests}
use Rattle.std.proofs.lemmas.List.{get_or-set_other, get_or-set_same, length-set}
use Rattle.std.proofs.lemmas.Option.{get_or_from_slice_get, slice_get-get_or, slice_get_within}

-- an item of the new list is the one that was put, or one of the old list
pub put_at : {X : Type 0} (xs : List X) (i : ℕ) (a : X) → i < length xs → (j : ℕ) (y : X) → slice_get (slice_set xs i a) j ≡ Some y
    → ((j ≡ i) × (y ≡ a)) ⊎ ((j ≢ i) × (slice_get xs j ≡ Some y))
put_at {X} xs i a inside j y is = by (j == i) refl
  where
    here : get_or (slice_set xs i a) j y ≡ y
    here = get_or_from_slice_get (slice_set xs i a) j y y is

    within : j < length xs
    within = omega (arith, slice_get_within (slice_set xs i a) j y is, length-set xs i a)

    by : (t : Bool) → (j == i) ≡ t → ((j ≡ i) × (y ≡ a)) ⊎ ((j ≢ i) × (slice_get xs j ≡ Some y))
    by true test =
        let same : j ≡ i = grind (arith, nat_tests, test) in
        inl (same, sym here ∙ ap (λ k. get_or (slice_set xs i a) k y) same ∙ get_or-set_same xs i a y inside)
    by false test =
        let other : j ≢ i = grind (arith, nat_tests, test) in
        inr (other, slice_get-get_or xs j y within ∙ ap (λ z. Some z) (sym (get_or-set_other xs i j a y other) ∙ here))
