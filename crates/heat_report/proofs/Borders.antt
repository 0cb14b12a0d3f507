-- The columns of a target.
use Rattle.std.proofs.Common.{◌≡◌, ℕ, zero, suc, ◌+◌, ◌-◌, ◌*◌, ◌/◌, ◌≤◌, ◌<◌, List, length, map, sum, refl, sym, ap, ◌∙◌, subst, arith, div-mul-le_self, mul-le-mul_right, mul_comm, mul-div_cancel}
use Rattle.std.specs.List.{range_with_len}
use Rattle.std.proofs.lemmas.Nat.{le-div}
use Rattle.std.proofs.lemmas.List.FromFn.{sum_by-map-range_with_len_more}
use Rattle.damon_types.specs.declared.row.Row.{Row}
use Rattle.damon_types.specs.declared.space.Target.{Target}
use Rattle.damon_types.specs.Space.{offset}
use Rattle.heat_report.specs.InSpace.{LieIn}
use Rattle.heat_report.specs.Heat.{border, heat_between, heats, target_heats, target_pages, target_total}
use Rattle.heat_report.proofs.Pages.{heat_by_rows, heat_of_two}
use Rattle.heat_report.proofs.Places.{offset_next, rows_of_target}

-- a quotient does not fall where the number rises
pub quotients_rise : (a b n : ℕ) → 1 ≤ n → a ≤ b → a / n ≤ b / n
quotients_rise a b n some low = le-div (a / n) b n some (omega (arith, low, div-mul-le_self a n))

-- borders rise
pub borders_rise : (first pages n i j : ℕ) → 1 ≤ n → i ≤ j → border first pages n i ≤ border first pages n j
borders_rise first pages n i j some low =
    omega (arith, quotients_rise (i * pages) (j * pages) n some (mul-le-mul_right pages low))

-- the first column begins with the first page, and the last one ends after the last page
pub border_first : (first pages n : ℕ) → 1 ≤ n → border first pages n 0 ≡ first
border_first first pages n some =
    let none : 0 * pages ≡ 0 = omega arith in
    rw none (omega (arith, div-mul-le_self 0 n, some))

pub border_last : (first pages n : ℕ) → 1 ≤ n → border first pages n n ≡ first + pages
border_last first pages n some = ap (λ q. first + q) (ap (λ k. k / n) (mul_comm n pages) ∙ mul-div_cancel pages some)

-- the heat of the first k columns
abbrev heats-to : List Row → ℕ → ℕ → ℕ → ℕ → List ℕ
heats-to rows first pages n k = map (λ j. heat_between rows (border first pages n j) (border first pages n (j + 1))) (range_with_len 0 k)

heat_of_none : (rows : List Row) (p : ℕ) → heat_between rows p p ≡ 0
heat_of_none rows p =
    let none : p - p ≡ 0 = omega arith in
    rw none refl

-- the heat of the first k columns is that of all their pages
heat_of_first : (rows : List Row) (first pages n : ℕ) → 1 ≤ n → (k : ℕ) → sum (heats-to rows first pages n k) ≡ heat_between rows first (border first pages n k)
heat_of_first rows first pages n some zero =
    let none : heat_between rows first (border first pages n 0) ≡ 0 = ap (λ p. heat_between rows first p) (border_first first pages n some) ∙ heat_of_none rows first in
    sym none
heat_of_first rows first pages n some (suc k) =
    let column : ℕ → ℕ = λ j. heat_between rows (border first pages n j) (border first pages n (j + 1)) in
    let suc_is : suc k ≡ k + 1 = omega arith in
    let more : sum (heats-to rows first pages n (k + 1)) ≡ sum (heats-to rows first pages n k) + column k = sum_by-map-range_with_len_more (λ (x : ℕ). x) column 0 k k (omega arith) in
    let low : first ≤ border first pages n k = omega arith in
    let two = heat_of_two rows first (border first pages n k) (border first pages n (k + 1)) low (borders_rise first pages n k (k + 1) some (omega arith)) in
    let all : sum (heats-to rows first pages n (k + 1)) ≡ heat_between rows first (border first pages n (k + 1)) = omega (arith, more, two, heat_of_first rows first pages n some k) in
    subst (λ m. sum (heats-to rows first pages n m) ≡ heat_between rows first (border first pages n m)) (sym suc_is) all

-- the heat of all columns is that of all pages of the target
pub heat_of_columns : (rows : List Row) (first pages n : ℕ) → 1 ≤ n → sum (heats rows first pages n) ≡ heat_between rows first (first + pages)
heat_of_columns rows first pages n some =
    heat_of_first rows first pages n some n ∙ ap (λ p. heat_between rows first p) (border_last first pages n some)

-- the heat of a target is that of its rows
pub heat_of_rows : (n target : ℕ) (ts : List Target) (rows : List Row) → 1 ≤ n → target < length ts → LieIn ts rows → sum (target_heats rows ts target n) ≡ target_total rows target
heat_of_rows n target ts rows some within lie =
    heat_of_columns rows (offset ts target) (target_pages ts target) n some
    ∙ ap (λ p. heat_between rows (offset ts target) p) (sym (offset_next ts target within))
    ∙ heat_by_rows 0 rows (offset ts target) (offset ts (target + 1)) lie.ascend
    ∙ rows_of_target ts target rows lie.each
