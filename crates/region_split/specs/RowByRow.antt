-- What splitting means: each row is split at the number of rows that there are at that moment.
use Rattle.std.specs.Prelude.{◌≡◌, ℕ, ◌+◌, Bool, List, ◌∷◌, ◌++◌, map, length}
use Rattle.std.specs.List.{flat_map}
use Rattle.damon_types.specs.declared.row.Row.{Row}
use Rattle.region_split.specs.Cut.{SplitLimits}
use Rattle.region_split.specs.Split.{parts_of, wants_three}

-- a row, and the rows that it becomes
pub record Piece : Type 0 where
  pub row : Row
  pub parts : List Row

-- the rows that rows become
abbrev pub parts_in : List Piece → List Row
parts_in pieces = flat_map (λ p. p.parts) pieces

-- wherever a row stands in the list, it is split at this number of rows: the parts of the rows before it, and the rows from it on
abbrev pub AreSplit : SplitLimits → Bool → List ℕ → List Piece → Type 0
AreSplit limits three words pieces = (before : List Piece) (p : Piece) (behind : List Piece) → pieces ≡ before ++ p ∷ behind
    → p.parts ≡ parts_of limits three words (length before) (length (parts_in before) + length (p ∷ behind)) p.row

-- each row is split so, and the new rows are the parts of all
pub record IsSplit (max unit before : ℕ) (words : List ℕ) (rows new : List Row) : Type 0 where
  pub pieces : List Piece
  pub of_rows : map (λ p. p.row) pieces ≡ rows
  pub split : AreSplit (record { max = max; unit = unit }) (wants_three max before (length rows)) words pieces
  pub made : new ≡ parts_in pieces
