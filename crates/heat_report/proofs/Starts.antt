-- Which rows begin before a page.
use Rattle.std.proofs.Common.{ℕ, zero, suc, ◌+◌, ◌≤◌, ◌<◌, List, [], ◌∷◌, length, map, take, drop, get_or, ltb, arith}
use Rattle.std.specs.List.{AllByRecursion}
use Rattle.std.specs.List.Sorted.{IsPartitionedBy}
use Rattle.std.proofs.lemmas.List.{length-map}
use Rattle.std.proofs.lemmas.List.Sorted.{IsPartitionedBy-ltb}
use Rattle.damon_types.specs.declared.row.Row.{Row}
use Rattle.region_list.specs.Find.{AscendFrom}

-- the first pages of the rows
abbrev pub first_pages : List Row → List ℕ
first_pages rows = map (λ r. r.start) rows

-- no row begins before the page from which they ascend
starts_from : (p : ℕ) (rows : List Row) (j d : ℕ) → AscendFrom p rows → j < length rows → p ≤ get_or (first_pages rows) j d
starts_from p [] j d ascend within = absurd (omega arith)
starts_from p (r ∷ rows) zero d ascend within = ascend.0
starts_from p (r ∷ rows) (suc j) d ascend within =
    omega (arith, ascend.0, starts_from (r.start + r.pages) rows j d ascend.1 (omega arith))

first_pages_rise : (p : ℕ) (rows : List Row) (i j d : ℕ) → AscendFrom p rows → i ≤ j → j < length rows → get_or (first_pages rows) i d ≤ get_or (first_pages rows) j d
first_pages_rise p [] i j d ascend low within = absurd (omega arith)
first_pages_rise p (r ∷ rows) zero zero d ascend low within = omega arith
first_pages_rise p (r ∷ rows) zero (suc j) d ascend low within = omega (arith, starts_from (r.start + r.pages) rows j d ascend.1 (omega arith))
first_pages_rise p (r ∷ rows) (suc i) zero d ascend low within = absurd (omega arith)
first_pages_rise p (r ∷ rows) (suc i) (suc j) d ascend low within = first_pages_rise (r.start + r.pages) rows i j d ascend.1 (omega arith) (omega arith)

-- a partition point is asked of rising numbers
pub starts_parted : (rows : List Row) (page : ℕ) → AscendFrom 0 rows → IsPartitionedBy (λ n. ltb n page) (first_pages rows)
starts_parted rows page ascend =
    IsPartitionedBy-ltb (λ n. n) (first_pages rows) page
    (λ i j d low within. first_pages_rise 0 rows i j d ascend low (omega (arith, within, length-map rows (λ (r : Row). r.start))))

-- the rows before a place begin before the page
pub begin_before : (page : ℕ) (rows : List Row) (i : ℕ) → i ≤ length rows → ((k : ℕ) → k < i → get_or (first_pages rows) k 0 < page) → AllByRecursion (λ r. r.start < page) (take i rows)
begin_before page [] zero within each = tt
begin_before page [] (suc i) within each = tt
begin_before page (r ∷ rows) zero within each = tt
begin_before page (r ∷ rows) (suc i) within each =
    (each 0 (omega arith), begin_before page rows i (omega arith) (λ k below. each (suc k) (omega (arith, below))))

-- the rows from a place on ascend from the page
pub ascend_after : (page p : ℕ) (rows : List Row) (i : ℕ) → AscendFrom p rows → (i < length rows → page ≤ get_or (first_pages rows) i 0) → AscendFrom page (drop i rows)
ascend_after page p [] zero ascend after = tt
ascend_after page p [] (suc i) ascend after = tt
ascend_after page p (r ∷ rows) zero ascend after = (after (omega arith), ascend.1)
ascend_after page p (r ∷ rows) (suc i) ascend after =
    ascend_after page (r.start + r.pages) rows i ascend.1 (λ within. after (omega (arith, within)))
