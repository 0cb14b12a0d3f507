-- Rows in the order of their pages.
use Rattle.std.specs.Prelude.{ℕ, zero, suc, ◌+◌, ◌≤◌, ◌<◌, ◌^◌, List, [], ◌∷◌}
use Rattle.damon_types.specs.declared.row.Row.{Row}

-- the page after the last page of a row
abbrev pub row_end : Row → ℕ
row_end r = r.start + r.pages

-- each row has a page, ends below page 2^32, and begins at or after the end of the row before it; the first at or after page p
abbrev pub RowsInOrder : ℕ → List Row → Type 0
RowsInOrder p [] = Unit {0}
RowsInOrder p (r ∷ rows) = (p ≤ r.start) × (1 ≤ r.pages) × (row_end r < 2 ^ 32) × RowsInOrder (row_end r) rows

-- the first n rows end by page p
abbrev pub EndBy : ℕ → List Row → ℕ → Type 0
EndBy p rows zero = Unit {0}
EndBy p [] (suc n) = Unit {0}
EndBy p (r ∷ rows) (suc n) = (row_end r ≤ p) × EndBy p rows n
