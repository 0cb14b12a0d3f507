-- Filters in their places.
use Rattle.std.proofs.Common.{◌≡◌, ℕ, suc, ◌+◌, ◌-◌, ◌<◌, List, [], ◌∷◌, ◌++◌, length, take, replicate, sym, ap, ◌∙◌, arith}
use Rattle.std.specs.Prelude.{slice_set}
use Rattle.std.proofs.lemmas.List.{append_assoc, length-append, length-take-le, set_at, take_more_set, length-set}
use Rattle.damon_types.specs.declared.filter.Filter.{Filter}
use Rattle.damon_types.specs.Filters.{IsPadded, padded, unused}

-- a filter in the first unused place
pub IsPadded-set : (places : List Filter) (len : ℕ) (f : Filter) → IsPadded places len → len < 8 → IsPadded (slice_set places len f) (len + 1)
IsPadded-set places len f is below = record {
  count = length-set places len f ∙ is.count;
  few = omega arith;
  rest = ap padded (take_more_set places len f (omega (arith, is.count))) ∙ padded_more ∙ sym placed;
}
  where
    front : List Filter
    front = take len places

    counted : length front ≡ len
    counted = length-take-le len places (omega (arith, is.count))

    left : 8 - len ≡ suc (7 - len)
    left = omega arith

    split : places ≡ front ++ unused ∷ replicate (7 - len) unused
    split = sym is.rest ∙ ap (λ n. front ++ replicate n unused) (ap (λ n. 8 - n) counted ∙ left)

    placed : slice_set places len f ≡ front ++ f ∷ replicate (7 - len) unused
    placed = ap (λ ps. slice_set ps len f) split ∙ set_at front unused (replicate (7 - len) unused) f len counted

    behind : 8 - length (front ++ f ∷ []) ≡ 7 - len
    behind = omega (arith, length-append front (f ∷ []), counted)

    padded_more : padded (front ++ f ∷ []) ≡ front ++ f ∷ replicate (7 - len) unused
    padded_more = ap (λ n. (front ++ f ∷ []) ++ replicate n unused) behind ∙ append_assoc front (f ∷ []) (replicate (7 - len) unused)
