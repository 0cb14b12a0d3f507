-- The parts of a row, and of all rows: they cover the pages of the rows, they are few enough, and no count rises.
use Rattle.std.proofs.Common.{◌≡◌, ℕ, ◌+◌, ◌-◌, ◌*◌, ◌≤◌, ◌<◌, Bool, true, false, List, [], ◌∷◌, ◌++◌, length, length-append, nat_lt, refl, ap, ◌∙◌, subst, arith}
use Rattle.std.specs.Prelude.{slice_index}
use Rattle.std.specs.List.{AllByRecursion}
use Rattle.std.proofs.lemmas.Bool.Decides.{nat_tests}
use Rattle.std.proofs.lemmas.List.{map-append}
use Rattle.std.proofs.Math.Nat.{mul-le-mul_right, div-le_of_le-mul}
use Rattle.damon_types.specs.declared.range.Range.{Range}
use Rattle.damon_types.specs.declared.row.Row.{Row}
use Rattle.damon_types.specs.Span.{span_of, spans}
use Rattle.damon_types.proofs.Lemmas.{all_append}
use Rattle.region_list.specs.Tiling.{Chain, Tiling}
use Rattle.region_list.specs.Refined.{IsRefined}
use Rattle.region_list.proofs.Lemmas.{refined_tiling}
use Rattle.region_split.specs.Cut.{SplitLimits, cut_place, may_cut, left_side, right_side}
use Rattle.region_split.specs.Split.{two_parts, three_parts, parts_of, split_from, split_rows, wants_three}

-- a cut lies within the row
cut_place_within : (pages word : ℕ) → cut_place pages word ≤ pages
cut_place_within pages word = div-le_of_le-mul 10 (mul-le-mul_right pages (omega arith))

-- what is known of a cut that is made
record IsCut (limits : SplitLimits) (count pages at : ℕ) : Type 0 where
  room : count < limits.max
  within : at ≤ pages
  left : limits.unit ≤ at
  right : limits.unit ≤ pages - at

is_cut : (limits : SplitLimits) (count pages word : ℕ) → may_cut limits count pages (cut_place pages word) ≡ true → IsCut limits count pages (cut_place pages word)
is_cut limits count pages word may = by (cut_place pages word) (cut_place_within pages word) may
  where
    by : (at : ℕ) → at ≤ pages → may_cut limits count pages at ≡ true → IsCut limits count pages at
    by at within may = record { room = grind (arith, nat_tests); within = within; left = grind (arith, nat_tests); right = grind (arith, nat_tests) }

-- A fact about the number of rows now, a row and its parts that holds of the whole row, and of a cut where it holds of the right side.
record HoldsOfCuts (limits : SplitLimits) (P : ℕ → Row → List Row → Type 0) : Type 0 where
  whole : (count : ℕ) (r : Row) → P count r (r ∷ [])
  cut : (count at : ℕ) (r : Row) (others : List Row) → IsCut limits count r.pages at → P (count + 1) (right_side at r) others → P count r (left_side at r ∷ others)

two_parts_hold : (limits : SplitLimits) (P : ℕ → Row → List Row → Type 0) → HoldsOfCuts limits P → (count word : ℕ) (r : Row) → P count r (two_parts limits count word r)
two_parts_hold limits P holds count word r = by (may_cut limits count r.pages (cut_place r.pages word)) refl
  where
    by : (v : Bool) → may_cut limits count r.pages (cut_place r.pages word) ≡ v → P count r (two_parts limits count word r)
    by true may = let at = cut_place r.pages word in rw may (holds.cut count at r (right_side at r ∷ []) (is_cut limits count r.pages word may) (holds.whole (count + 1) (right_side at r)))
    by false may = rw may (holds.whole count r)

three_parts_hold : (limits : SplitLimits) (P : ℕ → Row → List Row → Type 0) → HoldsOfCuts limits P → (count first second : ℕ) (r : Row) → P count r (three_parts limits count first second r)
three_parts_hold limits P holds count first second r = by (may_cut limits count r.pages (cut_place r.pages first)) refl
  where
    by : (v : Bool) → may_cut limits count r.pages (cut_place r.pages first) ≡ v → P count r (three_parts limits count first second r)
    by true may = let at = cut_place r.pages first in rw may (holds.cut count at r (two_parts limits (count + 1) second (right_side at r)) (is_cut limits count r.pages first may) (two_parts_hold limits P holds (count + 1) second (right_side at r)))
    by false may = rw may (holds.whole count r)

parts_hold : (limits : SplitLimits) (P : ℕ → Row → List Row → Type 0) → HoldsOfCuts limits P → (three : Bool) (words : List ℕ) (i count : ℕ) (r : Row) → P count r (parts_of limits three words i count r)
parts_hold limits P holds true words i count r = three_parts_hold limits P holds count (slice_index words (2 * i)) (slice_index words (2 * i + 1)) r
parts_hold limits P holds false words i count r = two_parts_hold limits P holds count (slice_index words (2 * i)) r

-- rows that cover exactly the pages of a row, each with the minimum size
abbrev Covers : ℕ → Row → List Row → Type 0
Covers unit r rows = Chain unit r.target r.start (r.start + r.pages) (spans rows)

parts_cover : (limits : SplitLimits) (three : Bool) (words : List ℕ) (i count : ℕ) (r : Row) → limits.unit ≤ r.pages → Covers limits.unit r (parts_of limits three words i count r)
parts_cover limits = parts_hold limits (λ count r new. limits.unit ≤ r.pages → Covers limits.unit r new) (record {
  whole = λ count r wide. (refl, refl, wide, refl);
  cut = λ count at r others is covers.
      λ wide.
      let end : r.start + at + (r.pages - at) ≡ r.start + r.pages = omega (arith, is.within) in
      (refl, refl, is.left, subst (λ (n : ℕ). Chain limits.unit r.target (r.start + at) n (spans others)) end (covers is.right));
})

parts_few : (limits : SplitLimits) (three : Bool) (words : List ℕ) (i count : ℕ) (r : Row) → count ≤ limits.max → count + length (parts_of limits three words i count r) ≤ limits.max + 1
parts_few limits = parts_hold limits (λ count r new. count ≤ limits.max → count + length new ≤ limits.max + 1) (record {
  whole = λ count r few. omega (arith, few);
  cut = λ count at r others is rest. λ few. omega (arith, rest (omega (arith, is.room)));
})

pub parts_some : (limits : SplitLimits) (three : Bool) (words : List ℕ) (i count : ℕ) (r : Row) → 0 < length (parts_of limits three words i count r)
parts_some limits = parts_hold limits (λ count r new. 0 < length new) (record {
  whole = λ count r. omega arith;
  cut = λ count at r others is rest. omega arith;
})

parts_counts : (limits : SplitLimits) (most : ℕ) (three : Bool) (words : List ℕ) (i count : ℕ) (r : Row) → r.count ≤ most → AllByRecursion (λ q. q.count ≤ most) (parts_of limits three words i count r)
parts_counts limits most = parts_hold limits (λ count r new. r.count ≤ most → AllByRecursion (λ q. q.count ≤ most) new) (record {
  whole = λ count r few. (few, tt);
  cut = λ count at r others is rest. λ few. (few, rest few);
})

-- the rows from row i on are covered by their parts
pub split_refined : (limits : SplitLimits) (three : Bool) (words : List ℕ) (count i : ℕ) (rows : List Row) → IsRefined limits.unit (spans rows) (spans (split_from limits three words count i rows))
split_refined limits three words count i [] = refl
split_refined limits three words count i (r ∷ rows) =
    let new = parts_of limits three words i count r in
    let rest = split_from limits three words (count + length new - 1) (i + 1) rows in
    (spans new, spans rest, map-append span_of new rest, parts_cover limits three words i count r, split_refined limits three words (count + length new - 1) (i + 1) rows)

-- the parts of the rows before, `before` of them, and those of these rows are few enough
pub split_few : (limits : SplitLimits) (three : Bool) (words : List ℕ) (before count i : ℕ) (rows : List Row) → before + length rows ≡ count → count ≤ limits.max → before + length (split_from limits three words count i rows) ≤ limits.max
split_few limits three words before count i [] is few = omega (arith, is, few)
split_few limits three words before count i (r ∷ rows) is few =
    let new = parts_of limits three words i count r in
    let rest = split_from limits three words (count + length new - 1) (i + 1) rows in
    let some = parts_some limits three words i count r in
    let room = parts_few limits three words i count r few in
    let later = split_few limits three words (before + length new) (count + length new - 1) (i + 1) rows (omega (arith, is, some)) (omega (arith, room)) in
    omega (arith, length-append new rest, later)

pub split_some : (limits : SplitLimits) (three : Bool) (words : List ℕ) (count i : ℕ) (rows : List Row) → 0 < length rows → 0 < length (split_from limits three words count i rows)
split_some limits three words count i [] some = some
split_some limits three words count i (r ∷ rows) some =
    let new = parts_of limits three words i count r in
    let rest = split_from limits three words (count + length new - 1) (i + 1) rows in
    omega (arith, length-append new rest, parts_some limits three words i count r)

pub split_counts : (limits : SplitLimits) (most : ℕ) (three : Bool) (words : List ℕ) (count i : ℕ) (rows : List Row) → AllByRecursion (λ r. r.count ≤ most) rows → AllByRecursion (λ r. r.count ≤ most) (split_from limits three words count i rows)
split_counts limits most three words count i [] few = few
split_counts limits most three words count i (r ∷ rows) few =
    let new = parts_of limits three words i count r in
    let rest = split_from limits three words (count + length new - 1) (i + 1) rows in
    all_append (λ q. q.count ≤ most) new rest (parts_counts limits most three words i count r few.0) (split_counts limits most three words (count + length new - 1) (i + 1) rows few.1)

-- with as many rows as are allowed, a row stays
row_stays : (limits : SplitLimits) (three : Bool) (words : List ℕ) (i count : ℕ) (r : Row) → limits.max ≤ count → parts_of limits three words i count r ≡ r ∷ []
row_stays limits true words i count r full = let test : nat_lt count limits.max ≡ false = grind (arith, nat_tests) in rw test refl
row_stays limits false words i count r full = let test : nat_lt count limits.max ≡ false = grind (arith, nat_tests) in rw test refl

-- so the rows that are left stay
pub rest_stays : (limits : SplitLimits) (three : Bool) (words : List ℕ) (count i : ℕ) (rows : List Row) → limits.max ≤ count → split_from limits three words count i rows ≡ rows
rest_stays limits three words count i [] full = refl
rest_stays limits three words count i (r ∷ rows) full =
    let same : count + 1 - 1 ≡ count = omega arith in
    ap (λ new. new ++ split_from limits three words (count + length new - 1) (i + 1) rows) (row_stays limits three words i count r full)
    ∙ ap (λ n. r ∷ split_from limits three words n (i + 1) rows) same
    ∙ ap (λ rs. r ∷ rs) (rest_stays limits three words count (i + 1) rows full)

-- what all rows keep when they are split
pub tiling_split : (max unit before : ℕ) (words : List ℕ) (gs : List Range) (rows : List Row) → Tiling unit gs (spans rows) → Tiling unit gs (spans (split_rows max unit before words rows))
tiling_split max unit before words gs rows tiling = refined_tiling unit gs (spans rows) (spans (split_rows max unit before words rows)) tiling (split_refined (record { max = max; unit = unit }) (wants_three max before (length rows)) words (length rows) 0 rows)

pub length_split : (max unit before : ℕ) (words : List ℕ) (rows : List Row) → length rows ≤ max → length (split_rows max unit before words rows) ≤ max
length_split max unit before words rows few = omega (arith, split_few (record { max = max; unit = unit }) (wants_three max before (length rows)) words 0 (length rows) 0 rows (omega arith) few)

pub some_split : (max unit before : ℕ) (words : List ℕ) (rows : List Row) → 0 < length rows → 0 < length (split_rows max unit before words rows)
some_split max unit before words rows some = split_some (record { max = max; unit = unit }) (wants_three max before (length rows)) words (length rows) 0 rows some

pub counts_split : (max unit before most : ℕ) (words : List ℕ) (rows : List Row) → AllByRecursion (λ r. r.count ≤ most) rows → AllByRecursion (λ r. r.count ≤ most) (split_rows max unit before words rows)
counts_split max unit before most words rows few = split_counts (record { max = max; unit = unit }) most (wants_three max before (length rows)) words (length rows) 0 rows few
