-- The heat of pages, row by row.
use Rattle.std.proofs.Common.{◌≡◌, ◌⊎◌, inl, inr, ℕ, zero, suc, ◌+◌, ◌-◌, ◌*◌, ◌≤◌, ◌<◌, Bool, true, false, List, [], ◌∷◌, Some, refl, ap, ◌∙◌, subst, arith}
use Rattle.std.specs.Prelude.{filter, find, cond, sum_by, if◌then◌else◌}
use Rattle.std.specs.List.{range_with_len}
use Rattle.std.specs.Option.{option_map_or}
use Rattle.std.proofs.lemmas.Bool.{cases_lt}
use Rattle.std.proofs.lemmas.Bool.Decides.{nat_tests}
use Rattle.std.proofs.lemmas.List.Sums.{sum_by-cons}
use Rattle.damon_types.specs.declared.row.Row.{Row}
use Rattle.region_list.specs.Find.{holds_page, AscendFrom}
use Rattle.heat_report.specs.Heat.{count_at, heat_between}
use Rattle.heat_report.specs.Overlap.{overlap}

-- what a test lets through, with one more in front
pub filter_more : (f : Row → ℕ) (p : Row → Bool) (r : Row) (rows : List Row) → sum_by f (filter p (r ∷ rows)) ≡ (if p r then f r else 0) + sum_by f (filter p rows)
filter_more f p r rows = by (p r)
  where
    by : (v : Bool) → sum_by f (cond v (r ∷ filter p rows) (filter p rows)) ≡ (if v then f r else 0) + sum_by f (filter p rows)
    by true = sum_by-cons f r (filter p rows)
    by false = omega arith

-- sums that agree number by number
pub sum_of_two : (f g h : ℕ → ℕ) → ((p : ℕ) → f p ≡ g p + h p) → (a n : ℕ) → sum_by f (range_with_len a n) ≡ sum_by g (range_with_len a n) + sum_by h (range_with_len a n)
sum_of_two f g h each a zero = refl
sum_of_two f g h each a (suc n) =
    omega (arith, each a, sum_by-cons f a (range_with_len (a + 1) n), sum_by-cons g a (range_with_len (a + 1) n), sum_by-cons h a (range_with_len (a + 1) n), sum_of_two f g h each (a + 1) n)

sum_of_zeros : (a n : ℕ) → sum_by (λ (p : ℕ). 0) (range_with_len a n) ≡ 0
sum_of_zeros a zero = refl
sum_of_zeros a (suc n) = omega (arith, sum_by-cons (λ (p : ℕ). 0) a (range_with_len (a + 1) n), sum_of_zeros (a + 1) n)

-- a sum over two runs of numbers
pub sum_split : (f : ℕ → ℕ) (a m k : ℕ) → sum_by f (range_with_len a (m + k)) ≡ sum_by f (range_with_len a m) + sum_by f (range_with_len (a + m) k)
sum_split f a zero k =
    let at : a + 0 ≡ a = omega arith in
    let len : 0 + k ≡ k = omega arith in
    rw (at, len) (omega arith)
sum_split f a (suc m) k =
    let at : a + 1 + m ≡ a + suc m = omega arith in
    let len : suc m + k ≡ suc (m + k) = omega arith in
    let rest = subst (λ b. sum_by f (range_with_len (a + 1) (m + k)) ≡ sum_by f (range_with_len (a + 1) m) + sum_by f (range_with_len b k)) at (sum_split f (a + 1) m k) in
    let first : sum_by f (range_with_len a (suc m + k)) ≡ f a + sum_by f (range_with_len (a + 1) (m + k)) =
    ap (λ n. sum_by f (range_with_len a n)) len ∙ sum_by-cons f a (range_with_len (a + 1) (m + k)) in
    omega (arith, first, rest, sum_by-cons f a (range_with_len (a + 1) m))

-- no row holds a page before all of them
count_before : (q : ℕ) (rows : List Row) (p : ℕ) → AscendFrom q rows → p < q → count_at rows p ≡ 0
count_before q [] p ascend before = refl
count_before q (r ∷ rows) p ascend before =
    let not_here : holds_page p r ≡ false = grind (arith, nat_tests, ascend.0) in
    rw not_here (count_before (r.start + r.pages) rows p ascend.1 (omega (arith, ascend.0)))

-- what one row adds to the count at a page
abbrev pub count_of : Row → ℕ → ℕ
count_of r p = if holds_page p r then r.count else 0

count_more : (r : Row) (rows : List Row) → AscendFrom (r.start + r.pages) rows → (p : ℕ) → count_at (r ∷ rows) p ≡ count_of r p + count_at rows p
count_more r rows ascend p = by (holds_page p r) refl
  where
    by : (v : Bool) → holds_page p r ≡ v → option_map_or (λ (s : Row). s.count) (cond v (Some r) (find (holds_page p) rows)) 0 ≡ (if v then r.count else 0) + count_at rows p
    by true here =
        let within : p < r.start + r.pages = grind (arith, nat_tests, here) in
        omega (arith, count_before (r.start + r.pages) rows p ascend within)
    by false elsewhere = omega arith

-- the pages of one row
row_heat : (r : Row) (a n : ℕ) → sum_by (count_of r) (range_with_len a n) ≡ r.count * overlap r a (a + n)
row_heat r a zero =
    let none : overlap r a (a + 0) ≡ 0 = omega arith in
    rw none (omega arith)
row_heat r a (suc n) = by (row_heat r (a + 1) n) (cases_lt a r.start) (cases_lt a (r.start + r.pages))
  where
    first : sum_by (count_of r) (range_with_len a (suc n)) ≡ count_of r a + sum_by (count_of r) (range_with_len (a + 1) n)
    first = sum_by-cons (count_of r) a (range_with_len (a + 1) n)

    outside : sum_by (count_of r) (range_with_len (a + 1) n) ≡ r.count * overlap r (a + 1) (a + 1 + n) → holds_page a r ≡ false → overlap r a (a + suc n) ≡ overlap r (a + 1) (a + 1 + n) → sum_by (count_of r) (range_with_len a (suc n)) ≡ r.count * overlap r a (a + suc n)
    outside rest not_held same =
        let none : count_of r a ≡ 0 = rw not_held refl in
        rw same (omega (arith, first, rest, none))

    by : sum_by (count_of r) (range_with_len (a + 1) n) ≡ r.count * overlap r (a + 1) (a + 1 + n) → (a < r.start) ⊎ (r.start ≤ a) → (a < r.start + r.pages) ⊎ (r.start + r.pages ≤ a) → sum_by (count_of r) (range_with_len a (suc n)) ≡ r.count * overlap r a (a + suc n)
    by rest (inl before) other = outside rest (grind (arith, nat_tests)) (omega (arith, before))
    by rest (inr from) (inr after) = outside rest (grind (arith, nat_tests)) (omega (arith, after))
    by rest (inr from) (inl to) =
        let held : holds_page a r ≡ true = grind (arith, nat_tests) in
        let one : count_of r a ≡ r.count = rw held refl in
        let more : r.count * (1 + overlap r (a + 1) (a + 1 + n)) ≡ r.count + r.count * overlap r (a + 1) (a + 1 + n) = omega arith in
        let held_is : overlap r a (a + suc n) ≡ 1 + overlap r (a + 1) (a + 1 + n) = omega (arith, from, to) in
        rw held_is (omega (arith, first, rest, one, more))

-- the heat of pages is what each row adds
pub heat_by_rows : (q : ℕ) (rows : List Row) (from to : ℕ) → AscendFrom q rows → heat_between rows from to ≡ sum_by (λ r. r.count * overlap r from to) rows
heat_by_rows q [] from to ascend = sum_of_zeros from (to - from)
heat_by_rows q (r ∷ rows) from to ascend =
    let two = sum_of_two (count_at (r ∷ rows)) (count_of r) (count_at rows) (count_more r rows ascend.1) from (to - from) in
    let one : sum_by (count_of r) (range_with_len from (to - from)) ≡ r.count * overlap r from (from + (to - from)) = row_heat r from (to - from) in
    let same : overlap r from (from + (to - from)) ≡ overlap r from to = omega arith in
    let here : sum_by (count_of r) (range_with_len from (to - from)) ≡ r.count * overlap r from to = one ∙ ap (λ n. r.count * n) same in
    omega (arith, two, here, heat_by_rows (r.start + r.pages) rows from to ascend.1, sum_by-cons (λ (s : Row). s.count * overlap s from to) r rows)

-- the heat of two runs of pages
pub heat_of_two : (rows : List Row) (a b c : ℕ) → a ≤ b → b ≤ c → heat_between rows a b + heat_between rows b c ≡ heat_between rows a c
heat_of_two rows a b c first second =
    let split = sum_split (count_at rows) a (b - a) (c - b) in
    let at : a + (b - a) ≡ b = omega (arith, first) in
    let len : (b - a) + (c - b) ≡ c - a = omega (arith, first, second) in
    let all = ap (λ n. sum_by (count_at rows) (range_with_len a n)) len in
    let end = ap (λ p. sum_by (count_at rows) (range_with_len p (c - b))) at in
    omega (arith, split, all, end)
