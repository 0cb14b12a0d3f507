-- The rows of a division tile the range.
use Rattle.std.proofs.Common.{◌≡◌, ℕ, zero, suc, ◌+◌, ◌-◌, ◌*◌, ◌/◌, ◌≤◌, ◌<◌, List, [], ◌∷◌, refl, sym, ap, ◌∙◌, Some, length, drop, add-one, length-append, arith}
use Rattle.std.specs.Prelude.{slice_get, sum_by}
use Rattle.std.specs.List.{flat_map, AllByRecursion}
use Rattle.std.proofs.Math.Nat.{div-mul-le_self, mul-div-le, le_of_mul-le-mul_left, le-div_iff_mul-le}
use Rattle.std.proofs.Math.Seq.{drop-cons}
use Rattle.std.proofs.lemmas.List.{map-append}
use Rattle.std.proofs.lemmas.List.Sums.{sum_by-cons, get_or-le-sum_by}
use Rattle.std.proofs.lemmas.Option.{get_or_from_slice_get, slice_get_within}
use Rattle.damon_types.specs.declared.range.Range.{Range}
use Rattle.damon_types.specs.Ranges.{end_of, page_total}
use Rattle.damon_types.specs.Span.{spans, span_of}
use Rattle.region_list.specs.Tiling.{Chain, Tiling}
use Rattle.region_list.specs.Division.{fresh, rows_from, range_rows, divided, range_row_count}

-- one row of several, and the others
pub rows_from_more : (t size end n start : ℕ) → 1 < n → rows_from t size end n start ≡ fresh t start size ∷ rows_from t size end (n - 1) (start + size)
rows_from_more t size end zero start more = absurd (omega arith)
rows_from_more t size end (suc zero) start more = absurd (omega arith)
rows_from_more t size end (suc (suc n)) start more =
    let fewer : suc (suc n) - 1 ≡ suc n = omega arith in
    rw fewer refl

-- the rows go from the first page to the end
pub chain_rows : (unit t size end n start : ℕ) → unit ≤ size → 1 ≤ n → start + size * n ≤ end → Chain unit t start end (spans (rows_from t size end n start))
chain_rows unit t size end zero start wide some fits = absurd (omega arith)
chain_rows unit t size end (suc zero) start wide some fits = (refl, refl, omega arith, omega arith)
chain_rows unit t size end (suc (suc n)) start wide some fits =
    (refl, refl, wide, chain_rows unit t size end (suc n) (start + size) wide (omega arith) (omega arith))

-- one factor less
pub peel : (s n : ℕ) → 1 ≤ n → s + s * (n - 1) ≡ s * n
peel s zero some = absurd (omega arith)
peel s (suc m) some = let e : suc m - 1 ≡ m = omega arith in rw e (omega arith)

-- there are as many rows as are asked for
pub length-rows_from : (t size end n start : ℕ) → length (rows_from t size end n start) ≡ n
length-rows_from t size end zero start = refl
length-rows_from t size end (suc zero) start = refl
length-rows_from t size end (suc (suc n)) start = omega (arith, length-rows_from t size end (suc n) (start + size))

-- the rows of the ranges are at most one for each and one for each share
length-divided_le : (unit least total : ℕ) (gs : List Range) → length (flat_map (range_rows unit least total) gs) ≤ length gs + sum_by (λ g. g.pages * least / total) gs
length-divided_le unit least total [] = omega arith
length-divided_le unit least total (g ∷ gs) =
    let k = range_row_count unit least total g in
    omega (arith, length-divided_le unit least total gs, sum_by-cons (λ (h : Range). h.pages * least / total) g gs, length-append (range_rows unit least total g) (flat_map (range_rows unit least total) gs), length-rows_from g.target (g.pages / k) (end_of g) k g.first)

-- the shares of the ranges are together at most what is aimed at
shares_le : (least total : ℕ) (gs : List Range) → total * sum_by (λ g. g.pages * least / total) gs ≤ page_total gs * least
shares_le least total [] = omega arith
shares_le least total (g ∷ gs) =
    rw (sum_by-cons (λ (h : Range). h.pages * least / total) g gs, sum_by-cons (λ (h : Range). h.pages) g gs) (omega (arith, shares_le least total gs, mul-div-le (g.pages * least) total))

-- the division has room
pub divided_fits : (unit least : ℕ) (gs : List Range) → 0 < page_total gs → length (divided unit least gs) ≤ length gs + least
divided_fits unit least gs some =
    let total = page_total gs in
    let shares : sum_by (λ g. g.pages * least / total) gs ≤ least = le_of_mul-le-mul_left {k = total} (shares_le least total gs) some in
    omega (arith, length-divided_le unit least total gs, shares)

-- a range is divided into a row at least
range_row_count_some : (unit least total : ℕ) (g : Range) → 1 ≤ unit → unit ≤ g.pages → 1 ≤ range_row_count unit least total g
range_row_count_some unit least total g some wide =
    let most : 1 ≤ g.pages / unit = (le-div_iff_mul-le some).1 (omega arith) in
    omega (arith, most)

-- and into rows of at least the unit
range_row_count_wide : (unit least total : ℕ) (g : Range) → 1 ≤ unit → unit ≤ g.pages → unit ≤ g.pages / range_row_count unit least total g
range_row_count_wide unit least total g some wide =
    let k = range_row_count unit least total g in
    let k_some : 0 < k = range_row_count_some unit least total g some wide in
    let most : k ≤ g.pages / unit = omega arith in
    (le-div_iff_mul-le k_some).1 (omega (arith, (le-div_iff_mul-le some).0 most))

-- the division tiles the ranges
pub divided_tiling : (unit least total : ℕ) (gs : List Range) → 1 ≤ unit → AllByRecursion (λ g. unit ≤ g.pages) gs → Tiling unit gs (spans (flat_map (range_rows unit least total) gs))
divided_tiling unit least total [] some wide = refl
divided_tiling unit least total (g ∷ gs) some wide =
    let k = range_row_count unit least total g in
    let rows = range_rows unit least total g in
    let fits : g.first + g.pages / k * k ≤ end_of g = omega (arith, div-mul-le_self g.pages k) in (
      spans rows,
      spans (flat_map (range_rows unit least total) gs),
      map-append span_of rows (flat_map (range_rows unit least total) gs),
      chain_rows unit g.target (g.pages / k) (end_of g) k g.first (range_row_count_wide unit least total g some wide.0) (range_row_count_some unit least total g some wide.0) fits,
      divided_tiling unit least total gs some wide.1,
    )

-- the initial division tiles its ranges
pub tiling_divided : (unit min : ℕ) (gs : List Range) → 1 ≤ unit → AllByRecursion (λ g. unit ≤ g.pages) gs → Tiling unit gs (spans (divided unit min gs))
tiling_divided unit min gs some wide = divided_tiling unit min (page_total gs) gs some wide

-- the ranges from index k: the one there and the others
pub drop_next : (gs : List Range) (i : ℕ) (g : Range) → i < length gs → slice_get gs i ≡ Some g → drop i gs ≡ g ∷ drop (i + 1) gs
drop_next gs i g here is = drop-cons gs i g here ∙ ap (λ x. x ∷ drop (suc i) gs) (get_or_from_slice_get gs i g g is) ∙ ap (λ n. g ∷ drop n gs) (sym (add-one i))

-- a range has no more pages than all have
pub pages_within : (gs : List Range) (i : ℕ) (g : Range) → slice_get gs i ≡ Some g → g.pages ≤ page_total gs
pages_within gs i g is =
    omega (arith, get_or-le-sum_by (λ (h : Range). h.pages) gs i g (slice_get_within gs i g is), ap (λ (h : Range). h.pages) (get_or_from_slice_get gs i g g is))
