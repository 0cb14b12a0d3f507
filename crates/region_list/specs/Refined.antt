-- Rows cut into parts, stated row by row. The law `refined_rows_tile` says that the parts tile as the rows did.
use Rattle.std.specs.Prelude.{◌≡◌, ℕ, ◌+◌, ◌≤◌, List, [], ◌∷◌, ◌++◌}
use Rattle.damon_types.specs.Span.{Span}
use Rattle.region_list.specs.Tiling.{Chain}

-- each row of at least `unit` pages is replaced by rows that cover exactly its pages, each of at least `unit` pages
abbrev pub IsRefined : ℕ → List Span → List Span → Type 0
IsRefined unit [] new = new ≡ []
IsRefined unit (s ∷ ss) new = (front : List Span) × (back : List Span) × (new ≡ front ++ back)
    × (unit ≤ s.pages → Chain unit s.target s.start (s.start + s.pages) front) × IsRefined unit ss back
