-- Finding the row that holds a page.
use Rattle.std.proofs.Common.{◌≡◌, ◌⊎◌, inl, inr, ℕ, zero, suc, ◌+◌, ◌≤◌, ◌<◌, Bool, true, false, List, [], ◌∷◌, Some, None, length, map, get_or, leb, refl, arith}
use Rattle.std.specs.Prelude.{position}
use Rattle.std.specs.List.{position_or_len}
use Rattle.std.specs.List.Sorted.{IsNonDecreasingBy, IsPartitionedBy}
use Rattle.std.proofs.lemmas.Bool.{cases_lt}
use Rattle.std.proofs.lemmas.Bool.Decides.{nat_tests}
use Rattle.std.proofs.lemmas.List.Sorted.{IsPartitionedBy-leb}
use Rattle.std.proofs.lemmas.List.Sums.{position_or_len_is}
use Rattle.std.proofs.lemmas.List.{length-map}
use Rattle.damon_types.specs.declared.row.Row.{Row}
use Rattle.region_list.specs.Rows.{no_row, row_at}
use Rattle.region_list.specs.Find.{holds_page, row_index, AscendFrom}

-- no row begins before the page from which they ascend
starts_from : (p : ℕ) (rows : List Row) (j : ℕ) (d : Row) → AscendFrom p rows → j < length rows → p ≤ (get_or rows j d).start
starts_from p [] j d ascending within = absurd (omega arith)
starts_from p (r ∷ rows) zero d ascending within = ascending.0
starts_from p (r ∷ rows) (suc j) d ascending within =
    omega (arith, ascending.0, starts_from (r.start + r.pages) rows j d ascending.1 (omega arith))

-- a row ends at or before the start of a later one
pub ends_before : (p : ℕ) (rows : List Row) (i j : ℕ) (d : Row) → AscendFrom p rows → i < j → j < length rows → (get_or rows i d).start + (get_or rows i d).pages ≤ (get_or rows j d).start
ends_before p [] i j d ascending later within = absurd (omega arith)
ends_before p (r ∷ rows) i zero d ascending later within = absurd (omega arith)
ends_before p (r ∷ rows) zero (suc j) d ascending later within = starts_from (r.start + r.pages) rows j d ascending.1 (omega arith)
ends_before p (r ∷ rows) (suc i) (suc j) d ascending later within = ends_before (r.start + r.pages) rows i j d ascending.1 (omega arith) (omega arith)

-- starts rise
starts_rise : (rows : List Row) → AscendFrom 0 rows → IsNonDecreasingBy (λ r. r.start) rows
starts_rise rows ascending i j d low within = by (cases_lt i j)
  where
    by : (i < j) ⊎ (j ≤ i) → (get_or rows i d).start ≤ (get_or rows j d).start
    by (inl later) = omega (arith, ends_before 0 rows i j d ascending later within)
    by (inr over) = let same : i ≡ j = omega arith in rw same (omega arith)

-- the starts as a column
start_at : (rows : List Row) (i d : ℕ) → i < length rows → get_or (map (λ r. r.start) rows) i d ≡ (row_at rows i).start
start_at [] i d within = absurd (omega arith)
start_at (r ∷ rows) zero d within = refl
start_at (r ∷ rows) (suc i) d within = start_at rows i d (omega arith)

column_rises : (rows : List Row) → AscendFrom 0 rows → IsNonDecreasingBy (λ n. n) (map (λ r. r.start) rows)
column_rises rows ascending i j d low within =
    let here : j < length rows = omega (arith, within, length-map rows (λ (r : Row). r.start)) in
    rw (start_at rows i d (omega arith), start_at rows j d here) (starts_rise rows ascending i j no_row low here)

pub column_parted : (rows : List Row) (page : ℕ) → AscendFrom 0 rows → IsPartitionedBy (λ n. leb n page) (map (λ r. r.start) rows)
column_parted rows page ascending = IsPartitionedBy-leb (λ n. n) (map (λ r. r.start) rows) page (column_rises rows ascending)

-- what a partition point of the column says of the rows
pub starts_before : (rows : List Row) (i : ℕ) → i < length rows → get_or (map (λ r. r.start) rows) i 0 ≡ (row_at rows i).start
starts_before rows i within = start_at rows i 0 within

pub starts_parted : (rows : List Row) (page : ℕ) → AscendFrom 0 rows → IsPartitionedBy (λ r. leb r.start page) rows
starts_parted rows page ascending = IsPartitionedBy-leb (λ r. r.start) rows page (starts_rise rows ascending)

not_held_after : (page : ℕ) (r : Row) → page < r.start → holds_page page r ≡ false
not_held_after page r after = grind (arith, nat_tests)

not_held_before : (page : ℕ) (r : Row) → r.start + r.pages ≤ page → holds_page page r ≡ false
not_held_before page r before = grind (arith, nat_tests)

held : (page : ℕ) (r : Row) → r.start ≤ page → page < r.start + r.pages → holds_page page r ≡ true
held page r from before = grind (arith, nat_tests)

-- the first place at which a test passes
position_at : (p : Row → Bool) (rows : List Row) (i : ℕ) → position_or_len p rows ≡ i → i < length rows → position p rows ≡ Some i
position_at p rows i is within = rw is (grind (arith, nat_tests))

position_none : (p : Row → Bool) (rows : List Row) → position_or_len p rows ≡ length rows → position p rows ≡ None
position_none p rows is = rw is (grind (arith, nat_tests))

-- where no row holds the page
none_holds : (rows : List Row) (page : ℕ) → ((k : ℕ) → k < length rows → holds_page page (row_at rows k) ≡ false) → row_index rows page ≡ None
none_holds rows page none =
    position_none (holds_page page) rows (position_or_len_is (holds_page page) rows (length rows) no_row (omega arith) none (λ within. absurd (omega arith)))

-- each row begins after the page
pub found_none : (rows : List Row) (page : ℕ) → ((i : ℕ) → i < length rows → page < (row_at rows i).start) → row_index rows page ≡ None
found_none rows page after = none_holds rows page (λ i within. not_held_after page (row_at rows i) (after i within))

-- row i begins at or before the page, and holds it
pub found_here : (rows : List Row) (page i : ℕ) → AscendFrom 0 rows → i < length rows → (row_at rows i).start ≤ page → page < (row_at rows i).start + (row_at rows i).pages → row_index rows page ≡ Some i
found_here rows page i ascending within start end =
    position_at (holds_page page) rows i (position_or_len_is (holds_page page) rows i no_row (omega arith) earlier (λ here. held page (row_at rows i) start end)) within
  where
    earlier : (k : ℕ) → k < i → holds_page page (row_at rows k) ≡ false
    earlier k before = not_held_before page (row_at rows k) (omega (arith, start, ends_before 0 rows k i no_row ascending before within))

-- row i ends at or before the page, and the next rows begin after it
pub found_gap : (rows : List Row) (page i : ℕ) → AscendFrom 0 rows → i < length rows → (row_at rows i).start + (row_at rows i).pages ≤ page → ((k : ℕ) → i < k → k < length rows → page < (row_at rows k).start) → row_index rows page ≡ None
found_gap rows page i ascending within end after = none_holds rows page (λ k here. by k here (cases_lt k i) (cases_lt i k))
  where
    by : (k : ℕ) → k < length rows → (k < i) ⊎ (i ≤ k) → (i < k) ⊎ (k ≤ i) → holds_page page (row_at rows k) ≡ false
    by k here (inl before) other = not_held_before page (row_at rows k) (omega (arith, end, ends_before 0 rows k i no_row ascending before within))
    by k here (inr low) (inl later) = not_held_after page (row_at rows k) (after k later here)
    by k here (inr low) (inr high) = let is : k ≡ i = omega arith in rw is (not_held_before page (row_at rows i) end)
