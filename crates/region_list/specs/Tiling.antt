-- Rows tile ranges, stated range by range: the form that calls require and ensure. The law `tiling_is_per_page` gives
-- `Tiles` from it.
use Rattle.std.specs.Prelude.{◌≡◌, ℕ, ◌+◌, ◌≤◌, List, [], ◌∷◌, ◌++◌}
use Rattle.damon_types.specs.declared.range.Range.{Range}
use Rattle.damon_types.specs.Ranges.{end_of}
use Rattle.damon_types.specs.Span.{Span}

-- rows of target t, each beginning where the one before it ends, from page `from` to before page `to`, each with at
-- least `unit` pages
abbrev pub Chain : ℕ → ℕ → ℕ → ℕ → List Span → Type 0
Chain unit t from to [] = from ≡ to
Chain unit t from to (s ∷ ss) = (s.target ≡ t) × (s.start ≡ from) × (unit ≤ s.pages) × Chain unit t (from + s.pages) to ss

-- for each range in order, a chain of rows from its first page to its end
abbrev pub Tiling : ℕ → List Range → List Span → Type 0
Tiling unit [] rows = rows ≡ []
Tiling unit (g ∷ gs) rows = (front : List Span) × (back : List Span) × (rows ≡ front ++ back) × Chain unit g.target g.first (end_of g) front × Tiling unit gs back
