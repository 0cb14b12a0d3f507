-- Shrinking: the closest rows are joined until there are at most as many as allowed.
use Rattle.std.specs.Prelude.{ℕ, zero, suc, ◌+◌, ◌-◌, Bool, ◌&&◌, ◌==◌, nat_le, min, List, [], ◌∷◌, length, if◌then◌else◌}
use Rattle.std.specs.Int.{abs_diff}
use Rattle.std.specs.List.{list_any}
use Rattle.damon_types.specs.declared.range.Range.{Range}
use Rattle.damon_types.specs.declared.row.Row.{Row}
use Rattle.damon_types.specs.Ranges.{end_of}
use Rattle.region_list.specs.Join.{join}

-- the range holds each page of the row
abbrev pub holds_row : Range → Row → Bool
holds_row g r = (r.target == g.target) && (nat_le g.first r.start && nat_le (r.start + r.pages) (end_of g))

-- some range holds both rows
abbrev pub in_one_range : List Range → Row → Row → Bool
in_one_range ranges a b = list_any (λ g. holds_row g a && holds_row g b) ranges

-- the difference of the counts of two rows
abbrev pub difference : Row → Row → ℕ
difference a b = abs_diff a.count b.count

-- the differences of adjacent rows of one range, in order
abbrev pub differences : List Range → List Row → List ℕ
differences ranges [] = []
differences ranges (a ∷ []) = []
differences ranges (a ∷ b ∷ rows) = let others = differences ranges (b ∷ rows) in if in_one_range ranges a b then difference a b ∷ others else others

-- the least number of a list
abbrev pub least : List ℕ → ℕ
least [] = 0
least (d ∷ []) = d
least (d ∷ e ∷ others) = min d (least (e ∷ others))

-- the index of the first row whose count differs from that of the next row of its range by d
abbrev pub place : List Range → ℕ → List Row → ℕ
place ranges d [] = 0
place ranges d (a ∷ []) = 1
place ranges d (a ∷ b ∷ rows) = if in_one_range ranges a b && (difference a b == d) then 0 else suc (place ranges d (b ∷ rows))

-- the index of the first row of the adjacent pair of one range whose counts differ least
abbrev pub closest : List Range → List Row → ℕ
closest ranges rows = place ranges (least (differences ranges rows)) rows

-- the rows with row i and the next one joined
abbrev pub joined_at : ℕ → List Row → List Row
joined_at i [] = []
joined_at i (a ∷ []) = a ∷ []
joined_at zero (a ∷ b ∷ rows) = join a b ∷ rows
joined_at (suc i) (a ∷ b ∷ rows) = a ∷ joined_at i (b ∷ rows)

-- the rows after n joins, each of the first closest pair
abbrev pub joined_times : List Range → ℕ → List Row → List Row
joined_times ranges zero rows = rows
joined_times ranges (suc n) rows = joined_times ranges n (joined_at (closest ranges rows) rows)

-- the rows shrunk to this number by joining closest pairs
abbrev pub shrunk : List Range → ℕ → List Row → List Row
shrunk ranges to rows = joined_times ranges (length rows - to) rows
