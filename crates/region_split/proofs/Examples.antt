-- Worked examples of splitting, reckoned by hand.
use Rattle.std.proofs.Common.{◌≡◌, ℕ, ◌+◌, false, List, [], ◌∷◌, length, take, drop, refl}
use Rattle.damon_types.specs.declared.row.Row.{Row}
use Rattle.region_split.specs.Split.{parts_of, split_rows}
use Rattle.region_split.specs.RowByRow.{Piece, parts_in}

-- a row of the first target
abbrev row : ℕ → ℕ → Row
row start pages = record { target = 0; start = start; pages = pages; count = 7; last = 5; age = 3 }

-- word 2 cuts after three tenths
three_tenths : split_rows 4 1 0 (2 ∷ 2 ∷ []) (row 0 10 ∷ []) ≡ row 0 3 ∷ row 3 7 ∷ []
three_tenths = refl

-- a side of 3 pages is below the minimum size 4
small_side : split_rows 4 4 0 (2 ∷ 2 ∷ []) (row 0 10 ∷ []) ≡ row 0 10 ∷ []
small_side = refl

-- word 8 cuts after nine tenths
nine_tenths : split_rows 4 1 0 (8 ∷ 2 ∷ []) (row 0 10 ∷ []) ≡ row 0 9 ∷ row 9 1 ∷ []
nine_tenths = refl

-- of 4 rows allowed there are 3: the first row is cut, and the others are not
one_more_row : split_rows 4 1 0 (2 ∷ 2 ∷ 2 ∷ 2 ∷ 2 ∷ 2 ∷ []) (row 0 10 ∷ row 10 10 ∷ row 20 10 ∷ []) ≡ row 0 3 ∷ row 3 7 ∷ row 10 10 ∷ row 20 10 ∷ []
one_more_row = refl

-- all 3 rows that are allowed are there
no_more_rows : split_rows 3 1 0 (2 ∷ 2 ∷ 2 ∷ 2 ∷ 2 ∷ 2 ∷ []) (row 0 10 ∷ row 10 10 ∷ row 20 10 ∷ []) ≡ row 0 10 ∷ row 10 10 ∷ row 20 10 ∷ []
no_more_rows = refl

-- the number of rows is as it was and below a third of 12: each row is cut after three tenths, and the 7 pages that are left after five tenths
three_parts : split_rows 12 1 3 (2 ∷ 4 ∷ 2 ∷ 4 ∷ 2 ∷ 4 ∷ []) (row 0 10 ∷ row 10 10 ∷ row 20 10 ∷ []) ≡ row 0 3 ∷ row 3 3 ∷ row 6 4 ∷ row 10 3 ∷ row 13 3 ∷ row 16 4 ∷ row 20 3 ∷ row 23 3 ∷ row 26 4 ∷ []
three_parts = refl

-- in the words of the rule: the second of these rows is split at 4 rows, the two parts of the first and the two rows from it on; 4 are allowed
abbrev one_more_pieces : List Piece
one_more_pieces = record { row = row 0 10; parts = row 0 3 ∷ row 3 7 ∷ [] } ∷ record { row = row 10 10; parts = row 10 10 ∷ [] } ∷ record { row = row 20 10; parts = row 20 10 ∷ [] } ∷ []

second_row : parts_of (record { max = 4; unit = 1 }) false (2 ∷ 2 ∷ 2 ∷ 2 ∷ 2 ∷ 2 ∷ []) 1 (length (parts_in (take 1 one_more_pieces)) + length (drop 1 one_more_pieces)) (row 10 10) ≡ row 10 10 ∷ []
second_row = refl
