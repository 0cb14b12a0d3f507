-- A piece whose end is not known yet.
use Rattle.std.specs.Prelude.{◌≡◌, ℕ, ◌-◌, List}
use Rattle.damon_types.specs.declared.row.Row.{Row}
use Rattle.range_update.specs.Updated.{kept, piece, pieces}

-- a row with another end
abbrev pub with_end : ℕ → Row → Row
with_end to r = record r { pages = to - r.start }

-- whatever its end comes to be, the row is the piece that starts where it does
abbrev pub IsOpenPiece : List Row → Row → Type 0
IsOpenPiece rows r = (to : ℕ) → with_end to r ≡ piece rows r.target r.start to

-- the pieces from a page to the end of the range, cut at those of these boundaries that are kept
abbrev pub pieces_from : List Row → ℕ → ℕ → ℕ → ℕ → List ℕ → List Row
pieces_from rows t unit end from xs = pieces rows t end from (kept unit end from xs)
