-- Pages by tenths of the passes.
use Rattle.std.proofs.Common.{◌≡◌, ◌≢◌, ◌⊎◌, inl, inr, ℕ, zero, suc, ◌+◌, ◌-◌, ◌*◌, ◌≤◌, ◌<◌, ◌^◌, true, false, List, [], ◌∷◌, length, drop, get_or, refl, ap, ◌∙◌, arith}
use Rattle.std.specs.Prelude.{◌==◌, filter, sum, sum_by, slice_index, if◌then◌else◌}
use Rattle.std.specs.List.{range_with_len}
use Rattle.std.proofs.lemmas.Bool.{cases_eq}
use Rattle.std.proofs.lemmas.Bool.Decides.{nat_tests}
use Rattle.std.proofs.lemmas.List.{drop_all}
use Rattle.std.proofs.lemmas.List.FromFn.{fill_by_all}
use Rattle.std.proofs.lemmas.List.Sums.{sum-map, sum_by-cons}
use Rattle.damon_types.specs.declared.row.Row.{Row}
use Rattle.damon_types.specs.RowPages.{row_pages}
use Rattle.heat_report.specs.Freq.{freqs, tenths}
use Rattle.heat_report.proofs.Pages.{filter_more, sum_of_two}

-- rows are added up to those that are left
pub record IsTally (aggr : ℕ) (rows : List Row) (count : ℕ) (ns : List ℕ) (left : List Row) : Type 0 where
  pub len : length ns ≡ 11
  pub fits : sum ns ≤ count * (2 ^ 32 - 1)
  pub each : (i : ℕ) → i < 11 → slice_index ns i + row_pages (filter (λ r. tenths aggr r == i) left) ≡ row_pages (filter (λ r. tenths aggr r == i) rows)

-- no row is left
pub tally_done : (aggr : ℕ) (rows : List Row) (count : ℕ) (ns : List ℕ) (i : ℕ) → length rows ≤ i → IsTally aggr rows count ns (drop i rows) → ns ≡ freqs aggr rows
tally_done aggr rows count ns i past tally = fill_by_all (λ j. row_pages (filter (λ r. tenths aggr r == j) rows)) ns 11 0 tally.len each
  where
    each : (j : ℕ) → j < 11 → get_or ns j 0 ≡ row_pages (filter (λ r. tenths aggr r == j) rows)
    each j below =
        let none : row_pages (filter (λ r. tenths aggr r == j) (drop i rows)) ≡ 0 = ap (λ rs. row_pages (filter (λ r. tenths aggr r == j) rs)) (drop_all i rows past) in
        omega (arith, tally.each j below, none)

-- a number at one index of a run counts once
counted_none : (k x a n : ℕ) → k < a → sum_by (λ i. if k == i then x else 0) (range_with_len a n) ≡ 0
counted_none k x a zero before = refl
counted_none k x a (suc n) before =
    let test : (k == a) ≡ false = grind (arith, nat_tests) in
    let first : (if k == a then x else 0) ≡ 0 = rw test refl in
    omega (arith, first, sum_by-cons (λ (i : ℕ). if k == i then x else 0) a (range_with_len (a + 1) n), counted_none k x (a + 1) n (omega arith))

counted_once : (k x a n : ℕ) → a ≤ k → k < a + n → sum_by (λ i. if k == i then x else 0) (range_with_len a n) ≡ x
counted_once k x a zero from to = absurd (omega arith)
counted_once k x a (suc n) from to = by (cases_eq k a) (λ later. counted_once k x (a + 1) n later (omega (arith, to)))
  where
    first : sum_by (λ i. if k == i then x else 0) (range_with_len a (suc n)) ≡ (if k == a then x else 0) + sum_by (λ i. if k == i then x else 0) (range_with_len (a + 1) n)
    first = sum_by-cons (λ (i : ℕ). if k == i then x else 0) a (range_with_len (a + 1) n)

    by : (k ≡ a) ⊎ (k ≢ a) → (a + 1 ≤ k → sum_by (λ i. if k == i then x else 0) (range_with_len (a + 1) n) ≡ x) → sum_by (λ i. if k == i then x else 0) (range_with_len a (suc n)) ≡ x
    by (inl is) rest =
        let test : (k == a) ≡ true = grind (arith, nat_tests) in
        let here : (if k == a then x else 0) ≡ x = rw test refl in
        omega (arith, first, here, counted_none k x (a + 1) n (omega arith))
    by (inr other) rest =
        let test : (k == a) ≡ false = grind (arith, nat_tests) in
        let none : (if k == a then x else 0) ≡ 0 = rw test refl in
        omega (arith, first, none, rest (grind arith))

-- the pages of all rows, by tenths
all_by_tenths : (aggr : ℕ) (rows : List Row) → sum_by (λ i. row_pages (filter (λ r. tenths aggr r == i) rows)) (range_with_len 0 11) ≡ row_pages rows
all_by_tenths aggr [] = refl
all_by_tenths aggr (r ∷ rows) =
    let two = sum_of_two (λ i. row_pages (filter (λ s. tenths aggr s == i) (r ∷ rows))) (λ i. if tenths aggr r == i then r.pages else 0) (λ i. row_pages (filter (λ s. tenths aggr s == i) rows)) (λ i. filter_more (λ (s : Row). s.pages) (λ s. tenths aggr s == i) r rows) 0 11 in
    let most : tenths aggr r < 0 + 11 = omega arith in
    omega (arith, two, counted_once (tenths aggr r) r.pages 0 11 (omega arith) most, all_by_tenths aggr rows, sum_by-cons (λ (s : Row). s.pages) r rows)

pub freqs_total : (aggr : ℕ) (rows : List Row) → sum (freqs aggr rows) ≡ row_pages rows
freqs_total aggr rows = sum-map (λ (n : ℕ). row_pages (filter (λ r. tenths aggr r == n) rows)) (range_with_len 0 11) ∙ all_by_tenths aggr rows
