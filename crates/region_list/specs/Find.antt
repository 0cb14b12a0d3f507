-- Which row holds a page.
use Rattle.std.specs.Prelude.{ℕ, ◌+◌, ◌≤◌, Bool, ◌&&◌, nat_le, nat_lt, List, [], ◌∷◌, Option, position}
use Rattle.damon_types.specs.declared.row.Row.{Row}

-- whether the row holds the page
abbrev pub holds_page : ℕ → Row → Bool
holds_page page r = nat_le r.start page && nat_lt page (r.start + r.pages)

-- the index of the row that holds the page
abbrev pub row_index : List Row → ℕ → Option ℕ
row_index rows page = position (holds_page page) rows

-- each row begins at or after the end of the row before it, the first at or after this page
abbrev pub AscendFrom : ℕ → List Row → Type 0
AscendFrom page [] = Unit {0}
AscendFrom page (r ∷ rows) = (page ≤ r.start) × AscendFrom (r.start + r.pages) rows
