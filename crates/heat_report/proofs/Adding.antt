-- What a row adds to the columns.
use Rattle.std.proofs.Common.{◌≡◌, ◌≢◌, ◌⊎◌, inl, inr, ℕ, ◌+◌, ◌-◌, ◌*◌, ◌≤◌, ◌<◌, true, false, List, length, length-set, get_or-set_same, get_or-set_other, refl, sym, ap, ◌∙◌, subst, arith, mul-add, mul-le-mul_left}
use Rattle.std.specs.Prelude.{sum, max, nat_lt, slice_index, slice_set, if◌then◌else◌}
use Rattle.std.proofs.lemmas.Bool.{cases_eq}
use Rattle.std.proofs.lemmas.Bool.Decides.{nat_tests}
use Rattle.std.proofs.lemmas.List.Sums.{sum_by-set}
use Rattle.damon_types.specs.declared.row.Row.{Row}
use Rattle.heat_report.specs.Heat.{border}
use Rattle.heat_report.specs.Overlap.{pages_in}
use Rattle.heat_report.proofs.Borders.{borders_rise}

-- a number that is added at an index
pub sum_added : (ns : List ℕ) (k x : ℕ) → k < length ns → sum (slice_set ns k (slice_index ns k + x)) ≡ sum ns + x
sum_added ns k x within = omega (arith, sum_by-set (λ (n : ℕ). n) ns k (slice_index ns k + x) 0 within)

-- what is added at the indexes up to one, where what is added below it is there
pub added_at : (old ns : List ℕ) (f : ℕ → ℕ) (k j : ℕ) → k < length ns → slice_index ns j ≡ slice_index old j + (if nat_lt j k then f j else 0) → slice_index (slice_set ns k (slice_index ns k + f k)) j ≡ slice_index old j + (if nat_lt j (k + 1) then f j else 0)
added_at old ns f k j within before = by (cases_eq j k)
  where
    by : (j ≡ k) ⊎ (j ≢ k) → slice_index (slice_set ns k (slice_index ns k + f k)) j ≡ slice_index old j + (if nat_lt j (k + 1) then f j else 0)
    by (inl is) =
        let test : nat_lt j k ≡ false = grind (arith, nat_tests) in
        let now : nat_lt j (k + 1) ≡ true = grind (arith, nat_tests) in
        let here : slice_index ns j ≡ slice_index old j = before ∙ (rw test (omega arith)) in
        let same = get_or-set_same ns k (slice_index ns k + f k) 0 within in
        let moved : slice_index (slice_set ns k (slice_index ns k + f k)) j ≡ slice_index ns j + f j =
        subst (λ i. slice_index (slice_set ns k (slice_index ns k + f k)) i ≡ slice_index ns i + f i) (sym is) same in
        rw now (omega (arith, moved, here))
    by (inr other) =
        let kept : slice_index (slice_set ns k (slice_index ns k + f k)) j ≡ slice_index ns j = rw get_or-set_other refl in
        let test : nat_lt j k ≡ nat_lt j (k + 1) = grind (arith, nat_tests) in
        kept ∙ before ∙ ap (λ t. slice_index old j + (if t then f j else 0)) test

-- a row has no page in a column before it
pub none_before : (r : Row) (first pages n from j : ℕ) → 1 ≤ n → border first pages n from ≤ r.start → j < from → pages_in first pages n j r ≡ 0
none_before r first pages n from j some after below =
    omega (arith, after, borders_rise first pages n (j + 1) from some (omega arith))

-- and in a column after it
pub none_after : (r : Row) (first pages n k j : ℕ) → 1 ≤ n → r.start + r.pages ≤ border first pages n (k + 1) → k < j → pages_in first pages n j r ≡ 0
none_after r first pages n k j some past later =
    omega (arith, past, borders_rise first pages n (k + 1) j some (omega arith))

-- the pages of a row that lie at or after a page
abbrev pub pages_from : Row → ℕ → ℕ
pages_from r p = r.start + r.pages - max p r.start

-- those in a column, and those after it
pages_of_two : (r : Row) (first pages n k : ℕ) → 1 ≤ n → pages_in first pages n k r + pages_from r (border first pages n (k + 1)) ≤ pages_from r (border first pages n k)
pages_of_two r first pages n k some = omega (arith, borders_rise first pages n k (k + 1) some (omega arith))

-- the same, with the count for each page
pub heat_left : (r : Row) (first pages n k : ℕ) → 1 ≤ n → r.count * pages_in first pages n k r + r.count * pages_from r (border first pages n (k + 1)) ≤ r.count * pages_from r (border first pages n k)
heat_left r first pages n k some =
    let two = mul-le-mul_left r.count (pages_of_two r first pages n k some) in
    omega (arith, two, mul-add r.count (pages_in first pages n k r) (pages_from r (border first pages n (k + 1))))

-- nothing is added below an index where there is nothing to add
pub begin_adding : (old : List ℕ) (f : ℕ → ℕ) (k j : ℕ) → (j < k → f j ≡ 0) → slice_index old j ≡ slice_index old j + (if nat_lt j k then f j else 0)
begin_adding old f k j none = grind (arith, nat_tests)

-- all is added where there is nothing to add behind an index
pub end_adding : (old ns : List ℕ) (f : ℕ → ℕ) (k j : ℕ) → (k < j → f j ≡ 0) → slice_index ns j ≡ slice_index old j + (if nat_lt j (k + 1) then f j else 0) → slice_index ns j ≡ slice_index old j + f j
end_adding old ns f k j none is = grind (arith, nat_tests)

-- no page, no heat
pub no_heat : (count pages : ℕ) → pages ≡ 0 → count * pages ≡ 0
no_heat count pages none = rw none (omega arith)

-- a row begins at or after the column from which it is added
pub heat_begins : (r : Row) (p : ℕ) → r.count * pages_from r p ≤ r.count * r.pages
heat_begins r p =
    let most : pages_from r p ≤ r.pages = omega arith in
    mul-le-mul_left r.count most

-- a row is added to the columns before k, and nothing to others; what is left of it fits
pub record IsAdded (first pages n : ℕ) (r : Row) (k : ℕ) (old ns : List ℕ) : Type 0 where
  pub len : length ns ≡ n
  pub fits : sum ns + r.count * pages_from r (border first pages n k) ≤ sum old + r.count * r.pages
  pub heat : (j : ℕ) → j < n → slice_index ns j ≡ slice_index old j + (if nat_lt j k then r.count * pages_in first pages n j r else 0)

pub added_none : (first pages n : ℕ) (r : Row) (k : ℕ) (old : List ℕ) → 1 ≤ n → border first pages n k ≤ r.start → length old ≡ n → IsAdded first pages n r k old old
added_none first pages n r k old some after len = record {
  len = len;
  fits = omega (arith, heat_begins r (border first pages n k));
  heat = λ j within. begin_adding old (λ i. r.count * pages_in first pages n i r) k j (λ below. no_heat r.count _ (none_before r first pages n k j some after below));
}

-- column k has room for its part
pub added_fits : (first pages n : ℕ) (r : Row) (k : ℕ) (old ns : List ℕ) → 1 ≤ n → IsAdded first pages n r k old ns → sum ns + r.count * pages_in first pages n k r ≤ sum old + r.count * r.pages
added_fits first pages n r k old ns some added = omega (arith, added.fits, heat_left r first pages n k some)

-- column k gets its part
pub added_next : (first pages n : ℕ) (r : Row) (k x : ℕ) (old ns new : List ℕ) → k < n → x ≡ r.count * pages_in first pages n k r → new ≡ slice_set ns k (slice_index ns k + x) → IsAdded first pages n r k old ns → IsAdded first pages n r (k + 1) old new
added_next first pages n r k x old ns new within x_is new_is added =
    let amount : ℕ → ℕ = λ j. r.count * pages_in first pages n j r in
    let inside : k < length ns = omega (arith, within, added.len) in
    let is : slice_set ns k (slice_index ns k + amount k) ≡ new = ap (λ y. slice_set ns k (slice_index ns k + y)) (sym x_is) ∙ sym new_is in
    subst (λ xs. IsAdded first pages n r (k + 1) old xs) is (record {
      len = length-set ns k (slice_index ns k + amount k) ∙ added.len;
      fits = omega (arith, added.fits, heat_left r first pages n k (omega arith), sum_added ns k (amount k) inside);
      heat = λ j below. added_at old ns amount k j inside (added.heat j below);
    })

-- no column behind k has a part
pub added_all : (first pages n : ℕ) (r : Row) (k : ℕ) (old ns : List ℕ) → (k + 1 ≡ n) ⊎ (r.start + r.pages ≤ border first pages n (k + 1)) → IsAdded first pages n r (k + 1) old ns → (j : ℕ) → j < n → slice_index ns j ≡ slice_index old j + r.count * pages_in first pages n j r
added_all first pages n r k old ns done added j below =
    end_adding old ns (λ i. r.count * pages_in first pages n i r) k j (λ later. no_heat r.count _ (none later done)) (added.heat j below)
  where
    none : k < j → (k + 1 ≡ n) ⊎ (r.start + r.pages ≤ border first pages n (k + 1)) → pages_in first pages n j r ≡ 0
    none later (inl last) = absurd (omega (arith, later, last, below))
    none later (inr past) = none_after r first pages n k j (omega (arith, below)) past later

pub added_sum : (first pages n : ℕ) (r : Row) (k : ℕ) (old ns : List ℕ) → IsAdded first pages n r k old ns → sum ns ≤ sum old + r.count * r.pages
added_sum first pages n r k old ns added = omega (arith, added.fits)

-- the part of a column as it is computed
pub part_is : (first pages n number k : ℕ) (r : Row) (a b p : ℕ) → number ≡ n → a ≡ r.count → b ≡ p → p ≡ pages_in first pages number k r → a * b ≡ r.count * pages_in first pages n k r
part_is first pages n number k r a b p same a_is b_is p_is =
    ap (λ x. x * b) a_is ∙ ap (λ y. r.count * y) (b_is ∙ p_is ∙ ap (λ m. pages_in first pages m k r) same)
