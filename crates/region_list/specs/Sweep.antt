-- Shrinking level by level: a sweep that joins the pairs of one level. For proofs alone; `Shrink` says what shrinking means.
use Rattle.std.specs.Prelude.{◌≡◌, ◌⊎◌, ℕ, ◌+◌, ◌≤◌, true, false, List, [], ◌∷◌, ◌++◌, length, take, drop}
use Rattle.damon_types.specs.declared.range.Range.{Range}
use Rattle.damon_types.specs.declared.row.Row.{Row}
use Rattle.damon_types.specs.Span.{spans}
use Rattle.region_list.specs.Tiling.{Chain}
use Rattle.region_list.specs.Walk.{BeginsIn}
use Rattle.region_list.specs.Shrink.{in_one_range, difference}

-- the counts of each adjacent pair of one range differ by at least d
abbrev pub DifferBy : List Range → ℕ → List Row → Type 0
DifferBy ranges d [] = Unit {0}
DifferBy ranges d (a ∷ []) = Unit {0}
DifferBy ranges d (a ∷ b ∷ rows) = (in_one_range ranges a b ≡ true → d ≤ difference a b) × DifferBy ranges d (b ∷ rows)

-- no range holds both the last of the rows and row b
abbrev pub IsApart : List Range → List Row → Row → Type 0
IsApart ranges [] b = Unit {0}
IsApart ranges (a ∷ []) b = in_one_range ranges a b ≡ false
IsApart ranges (a ∷ b ∷ rows) c = IsApart ranges (b ∷ rows) c

-- the first of the rows, or row r where there are no rows
abbrev pub first_or : List Row → Row → Row
first_or [] r = r
first_or (c ∷ rows) r = c

-- the rows as they stand in a sweep: those that are finished, the row in hand, and those to come
abbrev pub in_sweep : List Row → ℕ → Row → ℕ → List Row
in_sweep rows kept top index = take kept rows ++ top ∷ drop index rows

-- A sweep in progress: `front` are the finished rows, `top` is the row in hand, and `back` are the rows to come. Range
-- number k holds the top and the last `chain` finished rows, and ends at page `end`. Either few enough rows are left, or
-- pairs among the finished rows differ by more than the level, and pairs among those to come by at least the level.
pub record IsSweep (ranges : List Range) (level to : ℕ) (front : List Row) (top : Row) (back : List Row) (chain k end : ℕ) : Type 0 where
  pub here : BeginsIn ranges (top ∷ back) k end
  pub earlier : List Row
  pub last : List Row
  pub parts : front ≡ earlier ++ last
  pub count : length last ≡ chain
  pub from : ℕ
  pub low : here.range.first ≤ from
  pub chained : Chain 1 here.range.target from top.start (spans last)
  pub apart : IsApart ranges earlier (first_or last top)
  pub over : (length front + 1 + length back ≤ to) ⊎ (DifferBy ranges (level + 1) front × DifferBy ranges level back)
