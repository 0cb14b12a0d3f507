-- Adding row after row.
use Rattle.std.proofs.Common.{◌≡◌, ℕ, suc, ◌+◌, ◌*◌, ◌≤◌, ◌<◌, ◌^◌, List, [], ◌∷◌, length, drop, drop-cons, ap, ◌∙◌, refl, sym, subst, arith, mul-le-mul_right}
use Rattle.std.specs.Prelude.{sum, slice_index}
use Rattle.std.specs.List.{AllByRecursion}
use Rattle.std.proofs.lemmas.List.Sums.{sum_by-cons}
use Rattle.damon_types.specs.declared.attrs.TheConstants.{MAX_AGGR}
use Rattle.damon_types.specs.declared.row.Row.{Row}
use Rattle.damon_types.specs.RowPages.{row_pages}
use Rattle.region_list.specs.Find.{AscendFrom}
use Rattle.region_list.specs.Rows.{no_row, row_at}
use Rattle.heat_report.specs.Heat.{border}
use Rattle.heat_report.specs.Overlap.{added, pages_in}
use Rattle.heat_report.proofs.Adding.{no_heat}
use Rattle.heat_report.proofs.Borders.{border_last, borders_rise}

-- a row that was read, and those after it
pub row_read : (rows : List Row) (i : ℕ) (r : Row) → i < length rows → r ≡ row_at rows i → drop i rows ≡ r ∷ drop (i + 1) rows
row_read rows i r below is =
    let next : suc i ≡ i + 1 = omega arith in
    drop-cons rows i no_row below ∙ ap (λ s. s ∷ drop (suc i) rows) (sym is) ∙ ap (λ n. r ∷ drop n rows) next

-- rows that ascend from a page ascend from each page before it
pub ascend_weaker : (p q : ℕ) (rows : List Row) → q ≤ p → AscendFrom p rows → AscendFrom q rows
ascend_weaker p q [] low ascend = tt
ascend_weaker p q (r ∷ rows) low ascend = (omega (arith, low, ascend.0), ascend.1)

-- the rows up to some are added: the next ones begin in this column or after it, and have room
pub record IsWalk (first pages n : ℕ) (old : List ℕ) (all : List Row) (column : ℕ) (ns : List ℕ) (left : List Row) : Type 0 where
  pub within : column < n
  pub ascend : AscendFrom (border first pages n column) left
  pub rows : AllByRecursion (λ r. r.start + r.pages < 2 ^ 32) left
  pub counts : AllByRecursion (λ r. r.count ≤ MAX_AGGR) left
  pub len : length ns ≡ n
  pub fits : sum ns + MAX_AGGR * row_pages left < 2 ^ 64
  pub heat : (j : ℕ) → j < n → slice_index ns j + added first pages n j left ≡ slice_index old j + added first pages n j all

-- the room for the next row
next_fits : (r : Row) (rows : List Row) → r.count ≤ MAX_AGGR → r.count * r.pages + MAX_AGGR * row_pages rows ≤ MAX_AGGR * row_pages (r ∷ rows)
next_fits r rows few = omega (arith, sum_by-cons (λ (s : Row). s.pages) r rows, mul-le-mul_right r.pages few)

-- one more row
pub walk_next : (first pages n : ℕ) (old : List ℕ) (all : List Row) (column next : ℕ) (ns new : List ℕ) (r : Row) (rest left : List Row) → left ≡ r ∷ rest → next < n → border first pages n next ≤ r.start + r.pages → length new ≡ n → sum new ≤ sum ns + r.count * r.pages → ((j : ℕ) → j < n → slice_index new j ≡ slice_index ns j + r.count * pages_in first pages n j r) → IsWalk first pages n old all column ns left → IsWalk first pages n old all next new rest
walk_next first pages n old all column next ns new r rest left is within begun len most added_row walk =
    let here : IsWalk first pages n old all column ns (r ∷ rest) = subst (λ rs. IsWalk first pages n old all column ns rs) is walk in
    record {
      within = within;
      ascend = ascend_weaker (r.start + r.pages) (border first pages n next) rest begun here.ascend.1;
      rows = here.rows.1;
      counts = here.counts.1;
      len = len;
      fits = omega (arith, here.fits, most, next_fits r rest here.counts.0);
      heat = λ j below. omega (arith, here.heat j below, added_row j below, sum_by-cons (λ (s : Row). s.count * pages_in first pages n j s) r rest);
    }

-- rows behind all columns add nothing
none_behind : (first pages n j : ℕ) (rows : List Row) → 1 ≤ n → j < n → AscendFrom (first + pages) rows → added first pages n j rows ≡ 0
none_behind first pages n j [] some below ascend = refl
none_behind first pages n j (r ∷ rows) some below ascend =
    let past : border first pages n (j + 1) ≤ first + pages = omega (arith, borders_rise first pages n (j + 1) n some (omega arith), border_last first pages n some) in
    let none : pages_in first pages n j r ≡ 0 = omega (arith, past, ascend.0) in
    omega (arith, sum_by-cons (λ (s : Row). s.count * pages_in first pages n j s) r rows, no_heat r.count (pages_in first pages n j r) none, none_behind first pages n j rows some below (ascend_weaker (r.start + r.pages) (first + pages) rows (omega (arith, ascend.0)) ascend.1))

-- all is added when no rows are left, or the next one begins behind all columns
pub walk_done : (first pages n : ℕ) (old : List ℕ) (all : List Row) (column : ℕ) (ns : List ℕ) (left : List Row) → AscendFrom (first + pages) left → IsWalk first pages n old all column ns left → (j : ℕ) → j < n → slice_index ns j ≡ slice_index old j + added first pages n j all
walk_done first pages n old all column ns left behind walk j below =
    omega (arith, walk.heat j below, none_behind first pages n j left (omega arith) below behind)

pub behind_all : (end column : ℕ) (r : Row) (rest left : List Row) → left ≡ r ∷ rest → end ≤ r.start → AscendFrom column left → AscendFrom end left
behind_all end column r rest left is past ascend =
    let here : AscendFrom column (r ∷ rest) = subst (AscendFrom column) is ascend in
    subst (AscendFrom end) (sym is) (past, here.1)
