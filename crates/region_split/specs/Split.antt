-- The split of all rows.
use Rattle.std.specs.Prelude.{ℕ, ◌+◌, ◌-◌, ◌*◌, ◌/◌, Bool, ◌&&◌, ◌==◌, nat_lt, List, [], ◌∷◌, ◌++◌, length, slice_index, if◌then◌else◌}
use Rattle.damon_types.specs.declared.row.Row.{Row}
use Rattle.region_split.specs.Cut.{SplitLimits, cut_place, may_cut, left_side, right_side}

-- a row cut by a word, where it may be cut; `count` is the number of rows now
abbrev pub two_parts : SplitLimits → ℕ → ℕ → Row → List Row
two_parts limits count word r =
    let at = cut_place r.pages word in
    if may_cut limits count r.pages at then left_side at r ∷ right_side at r ∷ [] else r ∷ []

-- a row cut by its first word, where it may be cut; then there is one row more, and the second word cuts the right side
abbrev pub three_parts : SplitLimits → ℕ → ℕ → ℕ → Row → List Row
three_parts limits count first second r =
    let at = cut_place r.pages first in
    if may_cut limits count r.pages at then left_side at r ∷ two_parts limits (count + 1) second (right_side at r) else r ∷ []

-- the parts of row i, three where three are wanted and else two, by the words 2 i and 2 i + 1; `count` is the number of rows now
abbrev pub parts_of : SplitLimits → Bool → List ℕ → ℕ → ℕ → Row → List Row
parts_of limits three words i count r =
    let first = slice_index words (2 * i) in
    if three then three_parts limits count first (slice_index words (2 * i + 1)) r else two_parts limits count first r

-- the parts of the rows from row i on, `count` being the number of rows now: these rows, and the parts of the rows before them
abbrev pub split_from : SplitLimits → Bool → List ℕ → ℕ → ℕ → List Row → List Row
split_from limits three words count i [] = []
split_from limits three words count i (r ∷ rows) =
    let new = parts_of limits three words i count r in
    new ++ split_from limits three words (count + length new - 1) (i + 1) rows

-- whether three parts are wanted: the number of rows is that at the start of the previous split, and is below a third of the most
abbrev pub wants_three : ℕ → ℕ → ℕ → Bool
wants_three max before count = (count == before) && nat_lt count (max / 3)

-- the rows split from left to right, row i by the words 2 i and 2 i + 1
abbrev pub split_rows : ℕ → ℕ → ℕ → List ℕ → List Row → List Row
split_rows max unit before words rows =
    let count = length rows in
    split_from (record { max = max; unit = unit }) (wants_three max before count) words count 0 rows
