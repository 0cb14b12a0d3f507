-- The first pages of targets, and where rows lie.
use Rattle.std.proofs.Common.{◌≡◌, ◌⊎◌, inl, inr, ℕ, zero, suc, ◌+◌, ◌*◌, ◌≤◌, ◌<◌, Bool, true, false, List, [], ◌∷◌, length, take, refl, ap, ◌∙◌, arith}
use Rattle.std.specs.Prelude.{◌==◌, sum_by, if◌then◌else◌}
use Rattle.std.specs.List.{AllByRecursion}
use Rattle.std.proofs.lemmas.Bool.{cases_lt}
use Rattle.std.proofs.lemmas.Bool.Decides.{nat_tests}
use Rattle.std.proofs.lemmas.List.Sums.{sum_by-cons, sum_by-take-le}
use Rattle.damon_types.specs.declared.row.Row.{Row}
use Rattle.damon_types.specs.declared.space.Target.{Target}
use Rattle.damon_types.specs.Space.{offset, pages_of}
use Rattle.damon_types.specs.RowPages.{row_pages}
use Rattle.damon_types.proofs.Lemmas.{offset-le}
use Rattle.region_list.specs.Find.{AscendFrom}
use Rattle.heat_report.specs.InSpace.{IsRowOf}
use Rattle.heat_report.specs.Heat.{target_pages, target_total}
use Rattle.heat_report.specs.Overlap.{overlap}
use Rattle.heat_report.proofs.Pages.{filter_more}

-- the first page after one more target
offset_first : (t : Target) (ts : List Target) (i : ℕ) → offset (t ∷ ts) (suc i) ≡ t.pages + offset ts i
offset_first t ts i = sum_by-cons (λ (s : Target). s.pages) t (take i ts)

-- a target ends where the next one begins
pub offset_next : (ts : List Target) (i : ℕ) → i < length ts → offset ts (i + 1) ≡ offset ts i + target_pages ts i
offset_next [] i within = absurd (omega arith)
offset_next (t ∷ ts) zero within = omega (arith, sum_by-cons (λ (s : Target). s.pages) t [])
offset_next (t ∷ ts) (suc i) within =
    let next : suc i + 1 ≡ suc (i + 1) = omega arith in
    omega (arith, offset_first t ts i, offset_first t ts (i + 1), offset_next ts i (omega arith), ap (λ k. offset (t ∷ ts) k) next)

-- no target begins after the last page
pub offset_within : (ts : List Target) (i : ℕ) → offset ts i ≤ pages_of ts
offset_within ts i = sum_by-take-le (λ (t : Target). t.pages) ts i

-- a row that begins before a target ends at or before its first page
pub ends_before : (ts : List Target) (target : ℕ) (r : Row) → IsRowOf ts r → r.start < offset ts target → r.start + r.pages ≤ offset ts target
ends_before ts target r row before = by (cases_lt r.target target)
  where
    by : (r.target < target) ⊎ (target ≤ r.target) → r.start + r.pages ≤ offset ts target
    by (inl earlier) = omega (arith, row.to, offset-le ts (r.target + 1) target (omega arith))
    by (inr later) = absurd (omega (arith, row.from, before, offset-le ts target r.target later))

-- which pages of a row are those of a target: all where it is the row's, and none else
row_in_target : (ts : List Target) (target : ℕ) (r : Row) → IsRowOf ts r → overlap r (offset ts target) (offset ts (target + 1)) ≡ (if r.target == target then r.pages else 0)
row_in_target ts target r row = by (cases_lt r.target target) (cases_lt target r.target)
  where
    by : (r.target < target) ⊎ (target ≤ r.target) → (target < r.target) ⊎ (r.target ≤ target) → overlap r (offset ts target) (offset ts (target + 1)) ≡ (if r.target == target then r.pages else 0)
    by (inl earlier) other =
        let test : (r.target == target) ≡ false = grind (arith, nat_tests) in
        rw test (omega (arith, row.to, offset-le ts (r.target + 1) target (omega arith)))
    by (inr low) (inl later) =
        let test : (r.target == target) ≡ false = grind (arith, nat_tests) in
        rw test (omega (arith, row.from, offset-le ts (target + 1) r.target (omega arith)))
    by (inr low) (inr high) =
        let is : r.target ≡ target = omega arith in
        let test : (r.target == target) ≡ true = grind (arith, nat_tests) in
        let from = ap (λ i. offset ts i) is in
        let to = ap (λ i. offset ts (i + 1)) is in
        rw test (omega (arith, row.from, row.to, from, to))

-- what the rows add to the pages of a target
pub rows_of_target : (ts : List Target) (target : ℕ) (rows : List Row) → AllByRecursion (IsRowOf ts) rows → sum_by (λ r. r.count * overlap r (offset ts target) (offset ts (target + 1))) rows ≡ target_total rows target
rows_of_target ts target [] each = refl
rows_of_target ts target (r ∷ rows) each =
    let product : r.count * overlap r (offset ts target) (offset ts (target + 1)) ≡ (if r.target == target then r.pages * r.count else 0) = ap (λ n. r.count * n) (row_in_target ts target r each.0) ∙ times (r.target == target) in
    omega (arith, sum_by-cons (λ (s : Row). s.count * overlap s (offset ts target) (offset ts (target + 1))) r rows, filter_more (λ (s : Row). s.pages * s.count) (λ (s : Row). s.target == target) r rows, product, rows_of_target ts target rows each.1)
  where
    times : (v : Bool) → r.count * (if v then r.pages else 0) ≡ (if v then r.pages * r.count else 0)
    times true = omega arith
    times false = omega arith

-- rows of a space have at most its pages
pub rows_fit : (ts : List Target) (q : ℕ) (rows : List Row) → AllByRecursion (IsRowOf ts) rows → AscendFrom q rows → q ≤ pages_of ts → q + row_pages rows ≤ pages_of ts
rows_fit ts q [] each ascend low = omega (arith, low)
rows_fit ts q (r ∷ rows) each ascend low =
    omega (arith, ascend.0, sum_by-cons (λ (s : Row). s.pages) r rows, rows_fit ts (r.start + r.pages) rows each.1 ascend.1 (omega (arith, each.0.to, offset_within ts (r.target + 1))))
