-- Sums from an index upward.
use Rattle.std.proofs.Common.{◌≡◌, ◌⊎◌, inl, inr, ℕ, ◌+◌, ◌-◌, ◌<◌, ◌≤◌, false, true, List, length, drop, ap, ◌∙◌, sym, arith}
use Rattle.std.specs.Prelude.{sum, slice_index_or, slice_set, nat_le, replicate, if◌then◌else◌}
use Rattle.std.proofs.lemmas.Bool.{cases_lt}
use Rattle.std.proofs.lemmas.Bool.Decides.{nat_tests}
use Rattle.std.proofs.lemmas.List.{drop_all, drop-replicate, drop-set-add, drop-set-lt, get_or-drop, length-drop}
use Rattle.std.proofs.lemmas.List.Folds.{sum_by-replicate}
use Rattle.std.proofs.lemmas.List.Sums.{sum_by-drop_more, sum_by-set, sum_by-take-drop}
use Rattle.priority.specs.Histogram.{sum_from}

pub sum_from_end : (ns : List ℕ) (i : ℕ) → length ns ≤ i → sum_from ns i ≡ 0
sum_from_end ns i past = ap sum (drop_all i ns past)

pub sum_from_more : (ns : List ℕ) (i d : ℕ) → i < length ns → sum_from ns i ≡ slice_index_or ns i d + sum_from ns (i + 1)
sum_from_more ns i d within = sum_by-drop_more (λ (n : ℕ). n) ns i d within

pub sum_from_le : (ns : List ℕ) (i : ℕ) → sum_from ns i ≤ sum ns
sum_from_le ns i = omega (arith, sum_by-take-drop (λ (n : ℕ). n) ns i)

pub sum_from_zeros : (n i : ℕ) → sum_from (replicate n 0) i ≡ 0
sum_from_zeros n i = ap sum (drop-replicate i n 0) ∙ sum_by-replicate (λ (m : ℕ). m) (n - i) 0 ∙ omega arith

-- pages that are added at one index
pub sum_from_set : (ns : List ℕ) (k pages i : ℕ) → k < length ns → sum_from (slice_set ns k (slice_index_or ns k 0 + pages)) i ≡ sum_from ns i + (if nat_le i k then pages else 0)
sum_from_set ns k pages i within = by (cases_lt k i)
  where
    new : ℕ
    new = slice_index_or ns k 0 + pages

    by : (k < i) ⊎ (i ≤ k) → sum_from (slice_set ns k new) i ≡ sum_from ns i + (if nat_le i k then pages else 0)
    by (inl below) =
        let test : nat_le i k ≡ false = grind (arith, nat_tests) in
        ap sum (drop-set-lt i ns k new below) ∙ (rw test (omega arith))
    by (inr more) =
        let test : nat_le i k ≡ true = grind (arith, nat_tests) in
        let at : i + (k - i) ≡ k = omega (arith, more) in
        let back = ap (λ j. sum_from (slice_set ns j new) i) (sym at) ∙ ap sum (drop-set-add i ns (k - i) new) in
        let old = get_or-drop i ns (k - i) 0 ∙ ap (λ j. slice_index_or ns j 0) at in
        let change = sum_by-set (λ (n : ℕ). n) (drop i ns) (k - i) new 0 (omega (arith, within, more, length-drop i ns)) in
        back ∙ (rw test (omega (arith, old, change)))
