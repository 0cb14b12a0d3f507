-- Worked examples of range updates, computed by hand.
use Rattle.std.proofs.Common.{◌≡◌, ℕ, [], ◌∷◌, refl}
use Rattle.damon_types.specs.declared.range.Range.{Range}
use Rattle.damon_types.specs.declared.row.Row.{Row}
use Rattle.range_update.specs.Updated.{boundaries, kept, updated}

abbrev range : ℕ → ℕ → Range
range first pages = record { target = 0; first = first; pages = pages; class = 0 }

abbrev row : ℕ → ℕ → ℕ → Row
row start pages count = record { target = 0; start = start; pages = pages; count = count; last = 0; age = 0 }

-- a new range that begins within a row and ends after all of them
range_moved : updated 3 10 (row 0 10 6 ∷ row 10 10 1 ∷ []) (range 8 22 ∷ []) ≡ row 8 12 6 ∷ row 20 10 0 ∷ []
range_moved = refl

-- page 10 is less than three pages after page 8, so that boundary is not kept; page 20 is kept
boundary_too_near : kept 3 30 8 (boundaries (row 0 10 6 ∷ row 10 10 1 ∷ [])) ≡ 20 ∷ []
boundary_too_near = refl

-- a range that becomes shorter loses the rows after its end
range_shorter : updated 1 8 (row 0 1 0 ∷ row 1 1 5 ∷ row 2 1 6 ∷ []) (range 0 2 ∷ []) ≡ row 0 1 0 ∷ row 1 1 5 ∷ []
range_shorter = refl

-- a gap between two old rows gets a row of zeros, and the row after it keeps its count
gap_gets_zeros : updated 2 8 (row 0 4 3 ∷ row 6 4 7 ∷ []) (range 0 10 ∷ []) ≡ row 0 4 3 ∷ row 4 2 0 ∷ row 6 4 7 ∷ []
gap_gets_zeros = refl

-- the same with at most two rows: the two pieces whose counts differ least are joined, and 3 × 4 / 6 is 2
pieces_are_shrunk : updated 2 2 (row 0 4 3 ∷ row 6 4 7 ∷ []) (range 0 10 ∷ []) ≡ row 0 6 2 ∷ row 6 4 7 ∷ []
pieces_are_shrunk = refl
