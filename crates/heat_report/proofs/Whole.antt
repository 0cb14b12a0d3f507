-- The heat of a target is what the rows from its first one on add.
use Rattle.std.proofs.Common.{◌≡◌, ℕ, zero, suc, ◌+◌, ◌*◌, ◌<◌, ◌^◌, List, [], ◌∷◌, Some, length, take, drop, get_or, replicate, refl, sym, ap, ◌∙◌, subst, arith}
use Rattle.std.specs.Prelude.{sum, slice_get, slice_index}
use Rattle.std.specs.List.{AllByRecursion}
use Rattle.std.specs.Option.{option_map_or}
use Rattle.std.proofs.lemmas.List.{get_or-replicate}
use Rattle.std.proofs.lemmas.List.FromFn.{fill_by_all}
use Rattle.std.proofs.lemmas.List.Folds.{sum_by-replicate}
use Rattle.std.proofs.lemmas.List.Sums.{sum_by-cons, sum_by-take-drop}
use Rattle.damon_types.specs.declared.attrs.TheConstants.{MAX_AGGR}
use Rattle.damon_types.specs.declared.row.Row.{Row}
use Rattle.damon_types.specs.declared.space.Target.{Target}
use Rattle.damon_types.specs.Space.{IsSpace, offset}
use Rattle.damon_types.specs.RowPages.{row_pages}
use Rattle.heat_report.specs.InSpace.{IsRowOf, LieIn}
use Rattle.heat_report.specs.Heat.{border, heat_between, target_heats, target_pages}
use Rattle.heat_report.specs.Overlap.{added, pages_in}
use Rattle.heat_report.proofs.Adding.{no_heat}
use Rattle.heat_report.proofs.Pages.{heat_by_rows}
use Rattle.heat_report.proofs.Places.{ends_before, offset_next, offset_within, rows_fit}

-- what holds of each row holds of those that are left
pub all_left : (P : Row → Type 0) (rows : List Row) (i : ℕ) → AllByRecursion P rows → AllByRecursion P (drop i rows)
all_left P [] zero all = tt
all_left P [] (suc i) all = tt
all_left P (r ∷ rows) zero all = all
all_left P (r ∷ rows) (suc i) all = all_left P rows i all.1

-- rows of a space end below 2^32
pub rows_end : (ts : List Target) (rows : List Row) → IsSpace ts → AllByRecursion (IsRowOf ts) rows → AllByRecursion (λ r. r.start + r.pages < 2 ^ 32) rows
rows_end ts [] sound each = tt
rows_end ts (r ∷ rows) sound each =
    (omega (arith, sound.total, each.0.to, offset_within ts (r.target + 1)), rows_end ts rows sound each.1)

-- there is room for the heat of all rows
pub room_for_all : (ts : List Target) (rows : List Row) (n i : ℕ) (old : List ℕ) → IsSpace ts → LieIn ts rows → old ≡ replicate n 0 → sum old + MAX_AGGR * row_pages (drop i rows) < 2 ^ 64
room_for_all ts rows n i old sound lie zeros =
    let all = rows_fit ts 0 rows lie.each lie.ascend (omega arith) in
    let none : sum old ≡ 0 = ap sum zeros ∙ sum_by-replicate (λ (x : ℕ). x) n 0 ∙ omega arith in
    omega (arith, none, all, sound.total, sum_by-take-drop (λ (r : Row). r.pages) rows i)

-- the number of pages of a target that was read
pub pages_read : (ts : List Target) (target : ℕ) (t : Target) → slice_get ts target ≡ Some t → t.pages ≡ target_pages ts target
pages_read ts target t is = sym (ap (λ o. option_map_or (λ (s : Target). s.pages) o 0) is)

-- a target ends below 2^32
pub target_ends : (ts : List Target) (target : ℕ) → IsSpace ts → target < length ts → offset ts target + target_pages ts target < 2 ^ 32
target_ends ts target sound within = omega (arith, sound.total, offset_next ts target within, offset_within ts (target + 1))

-- rows that begin before a target add nothing
none_before_target : (ts : List Target) (target pages n j : ℕ) (rows : List Row) (i : ℕ) → AllByRecursion (IsRowOf ts) rows → AllByRecursion (λ r. r.start < offset ts target) (take i rows) → added (offset ts target) pages n j (take i rows) ≡ 0
none_before_target ts target pages n j [] zero each before = refl
none_before_target ts target pages n j [] (suc i) each before = refl
none_before_target ts target pages n j (r ∷ rows) zero each before = refl
none_before_target ts target pages n j (r ∷ rows) (suc i) each before =
    let end = ends_before ts target r each.0 before.0 in
    let none : pages_in (offset ts target) pages n j r ≡ 0 = omega (arith, end) in
    omega (arith, sum_by-cons (λ (s : Row). s.count * pages_in (offset ts target) pages n j s) r (take i rows), no_heat r.count (pages_in (offset ts target) pages n j r) none, none_before_target ts target pages n j rows i each.1 before.1)

-- the heat of a column
column_is : (ts : List Target) (target pages n j : ℕ) (rows : List Row) (i : ℕ) → LieIn ts rows → AllByRecursion (λ r. r.start < offset ts target) (take i rows) → added (offset ts target) pages n j (drop i rows) ≡ heat_between rows (border (offset ts target) pages n j) (border (offset ts target) pages n (j + 1))
column_is ts target pages n j rows i lie before =
    omega (arith, none_before_target ts target pages n j rows i lie.each before, sum_by-take-drop (λ (r : Row). r.count * pages_in (offset ts target) pages n j r) rows i, heat_by_rows 0 rows (border (offset ts target) pages n j) (border (offset ts target) pages n (j + 1)) lie.ascend)

-- the heat of all columns
pub heats_are : (ts : List Target) (target n i first pages : ℕ) (rows : List Row) (old new : List ℕ) → first ≡ offset ts target → pages ≡ target_pages ts target → LieIn ts rows → AllByRecursion (λ r. r.start < first) (take i rows) → old ≡ replicate n 0 → length new ≡ n → ((j : ℕ) → j < n → slice_index new j ≡ slice_index old j + added first pages n j (drop i rows)) → new ≡ target_heats rows ts target n
heats_are ts target n i first pages rows old new first_is pages_is lie before zeros len heat =
    fill_by_all (λ j. heat_between rows (border (offset ts target) (target_pages ts target) n j) (border (offset ts target) (target_pages ts target) n (j + 1))) new n 0 len each
  where
    each : (j : ℕ) → j < n → get_or new j 0 ≡ heat_between rows (border (offset ts target) (target_pages ts target) n j) (border (offset ts target) (target_pages ts target) n (j + 1))
    each j below =
        let none : slice_index old j ≡ 0 = ap (λ xs. slice_index xs j) zeros ∙ get_or-replicate n j 0 0 below in
        let here : added first pages n j (drop i rows) ≡ added (offset ts target) (target_pages ts target) n j (drop i rows) =
        ap (λ p. added p pages n j (drop i rows)) first_is ∙ ap (λ p. added (offset ts target) p n j (drop i rows)) pages_is in
        let begun = subst (λ p. AllByRecursion (λ (r : Row). r.start < p) (take i rows)) first_is before in
        omega (arith, heat j below, none, here, column_is ts target (target_pages ts target) n j rows i lie begun)
