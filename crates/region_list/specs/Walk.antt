-- Walking the rows of a tiling range by range.
use Rattle.std.specs.Prelude.{◌≡◌, ℕ, ◌≤◌, ◌<◌, List, [], ◌∷◌, ◌++◌, drop}
use Rattle.damon_types.specs.declared.range.Range.{Range}
use Rattle.damon_types.specs.declared.row.Row.{Row}
use Rattle.damon_types.specs.Ranges.{end_of}
use Rattle.damon_types.specs.Span.{Span, spans}
use Rattle.region_list.specs.Tiling.{Chain, Tiling}

-- the rows tile the first range from page `from` to its end, and then the other ranges
abbrev pub TilesFrom : ℕ → List Range → List Span → Type 0
TilesFrom from [] ss = ⊥
TilesFrom from (g ∷ gs) ss = (front : List Span) × (back : List Span)
    × (ss ≡ front ++ back) × (g.first ≤ from) × (from < end_of g)
    × Chain 1 g.target from (end_of g) front × Tiling 1 gs back

-- the first of the rows lies in range number k, which ends at page `end`, and the rows tile the ranges from there on
pub record BeginsIn (all : List Range) (rows : List Row) (k end : ℕ) : Type 0 where
  pub from : ℕ
  pub range : Range
  pub others : List Range
  pub ranges : drop k all ≡ range ∷ others
  pub end_is : end ≡ end_of range
  pub rest : TilesFrom from (range ∷ others) (spans rows)
