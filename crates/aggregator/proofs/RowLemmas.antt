-- What aging and clearing make of the values of rows, and what stays.
use Rattle.std.proofs.Common.{◌≡◌, ℕ, zero, suc, ◌≤◌, ◌<◌, List, [], ◌∷◌, ◌++◌, length, map, take, drop, set, refl, ap, arith}
use Rattle.std.proofs.lemmas.List.{length-map}
use Rattle.std.specs.Prelude.{replicate, slice_index}
use Rattle.std.specs.List.{AllByRecursion}
use Rattle.damon_types.specs.declared.row.Row.{Row}
use Rattle.damon_types.specs.declared.scheme.Version.{Version}
use Rattle.damon_types.specs.Span.{span_of, spans}
use Rattle.region_list.specs.Rows.{row_at}
use Rattle.aggregator.specs.Aged.{aged, aged_row}
use Rattle.aggregator.specs.Cleared.{cleared}

pub spans_aged : (threshold : ℕ) (version : Version) (rows : List Row) → spans (aged threshold version rows) ≡ spans rows
spans_aged threshold version [] = refl
spans_aged threshold version (r ∷ rows) = ap (λ ss. span_of r ∷ ss) (spans_aged threshold version rows)

pub spans_cleared : (rows : List Row) → spans (cleared rows) ≡ spans rows
spans_cleared [] = refl
spans_cleared (r ∷ rows) = ap (λ ss. span_of r ∷ ss) (spans_cleared rows)

pub length_aged : (threshold : ℕ) (version : Version) (rows : List Row) → length (aged threshold version rows) ≡ length rows
length_aged threshold version rows = length-map rows (aged_row threshold version)

pub counts_aged : (threshold most : ℕ) (version : Version) (rows : List Row) → AllByRecursion (λ r. r.count ≤ most) rows → AllByRecursion (λ r. r.count ≤ most) (aged threshold version rows)
counts_aged threshold most version [] few = few
counts_aged threshold most version (r ∷ rows) few = (few.0, counts_aged threshold most version rows few.1)

pub length_cleared : (rows : List Row) → length (cleared rows) ≡ length rows
length_cleared rows = length-map rows (λ (r : Row). record r { last = r.count; count = 0 })

pub counts_cleared : (rows : List Row) → AllByRecursion (λ r. r.count ≤ 0) (cleared rows)
counts_cleared [] = tt
counts_cleared (r ∷ rows) = (omega arith, counts_cleared rows)

-- the counts of rows that are cleared
pub cleared_counts : (rows : List Row) → map (λ r. r.count) (cleared rows) ≡ replicate (length rows) 0
cleared_counts [] = refl
cleared_counts (r ∷ rows) = ap (λ ns. 0 ∷ ns) (cleared_counts rows)

pub cleared_lasts : (rows : List Row) → map (λ r. r.last) (cleared rows) ≡ map (λ r. r.count) rows
cleared_lasts [] = refl
cleared_lasts (r ∷ rows) = ap (λ ns. r.count ∷ ns) (cleared_lasts rows)

pub cleared_ages : (rows : List Row) → map (λ r. r.age) (cleared rows) ≡ map (λ r. r.age) rows
cleared_ages [] = refl
cleared_ages (r ∷ rows) = ap (λ ns. r.age ∷ ns) (cleared_ages rows)

-- the counts of rows that are aged
pub aged_counts : (threshold : ℕ) (version : Version) (rows : List Row) → map (λ r. r.count) (aged threshold version rows) ≡ map (λ r. r.count) rows
aged_counts threshold version [] = refl
aged_counts threshold version (r ∷ rows) = ap (λ ns. r.count ∷ ns) (aged_counts threshold version rows)

pub aged_lasts : (threshold : ℕ) (version : Version) (rows : List Row) → map (λ r. r.last) (aged threshold version rows) ≡ map (λ r. r.last) rows
aged_lasts threshold version [] = refl
aged_lasts threshold version (r ∷ rows) = ap (λ ns. r.last ∷ ns) (aged_lasts threshold version rows)

-- a number of a column
pub in_column : (f : Row → ℕ) (rows : List Row) (i : ℕ) → i < length rows → slice_index (map f rows) i ≡ f (row_at rows i)
in_column f [] i within = absurd (omega arith)
in_column f (r ∷ rows) zero within = refl
in_column f (r ∷ rows) (suc i) within = in_column f rows i (omega arith)

-- the ages of rows of which the first i are aged
abbrev pub ages_so_far : ℕ → Version → List Row → ℕ → List ℕ
ages_so_far threshold version rows i = map (λ r. r.age) (aged threshold version (take i rows)) ++ map (λ r. r.age) (drop i rows)

-- the age of the next row is still the old one
pub next_is_old : (threshold : ℕ) (version : Version) (rows : List Row) (i : ℕ) → i < length rows → slice_index (ages_so_far threshold version rows i) i ≡ (row_at rows i).age
next_is_old threshold version [] i within = absurd (omega arith)
next_is_old threshold version (r ∷ rows) zero within = refl
next_is_old threshold version (r ∷ rows) (suc i) within = next_is_old threshold version rows i (omega arith)

-- one row more is aged
pub aged_more : (threshold : ℕ) (version : Version) (rows : List Row) (i : ℕ) → i < length rows → set (ages_so_far threshold version rows i) i (aged_row threshold version (row_at rows i)).age ≡ ages_so_far threshold version rows (suc i)
aged_more threshold version [] i within = absurd (omega arith)
aged_more threshold version (r ∷ rows) zero within = refl
aged_more threshold version (r ∷ rows) (suc i) within = ap (λ ns. (aged_row threshold version r).age ∷ ns) (aged_more threshold version rows i (omega arith))
