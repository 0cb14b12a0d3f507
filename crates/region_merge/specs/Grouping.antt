-- What merging means: the rows are cut into groups of adjacent rows, and each group becomes one row.
use Rattle.std.specs.Prelude.{◌≡◌, ℕ, true, false, List, [], ◌∷◌, map, fold}
use Rattle.std.specs.List.{AllByRecursion, flat_map}
use Rattle.damon_types.specs.declared.range.Range.{Range}
use Rattle.damon_types.specs.declared.row.Row.{Row}
use Rattle.region_list.specs.Join.{join}
use Rattle.region_merge.specs.Merged.{may_join}

-- adjacent rows, at least one
pub record Group : Type 0 where
  pub first : Row
  pub others : List Row

-- the rows of a group in order
abbrev pub rows_of : Group → List Row
rows_of group = group.first ∷ group.others

-- the row that a group becomes: its rows joined from left to right
abbrev pub joined_row : Group → Row
joined_row group = fold join group.first group.others

-- each of the rows may be joined to what row a and the rows before it become
abbrev pub MayFollow : List Range → ℕ → ℕ → Row → List Row → Type 0
MayFollow ranges threshold limit a [] = Unit {0}
MayFollow ranges threshold limit a (b ∷ rows) =
    (may_join ranges threshold limit a b ≡ true) × MayFollow ranges threshold limit (join a b) rows

-- each row of a group may be joined to what the rows before it become
abbrev pub IsGroup : List Range → ℕ → ℕ → Group → Type 0
IsGroup ranges threshold limit group = MayFollow ranges threshold limit group.first group.others

-- no group can be longer: the first row of the next group may not be joined to what the group becomes
abbrev pub AreApart : List Range → ℕ → ℕ → List Group → Type 0
AreApart ranges threshold limit [] = Unit {0}
AreApart ranges threshold limit (g ∷ []) = Unit {0}
AreApart ranges threshold limit (g ∷ h ∷ groups) =
    (may_join ranges threshold limit (joined_row g) h.first ≡ false) × AreApart ranges threshold limit (h ∷ groups)

-- the rows are cut into groups that cannot be longer, and each of the new rows is what one group becomes
pub record IsMerged (ranges : List Range) (threshold limit : ℕ) (rows new : List Row) : Type 0 where
  pub groups : List Group
  pub cut : rows ≡ flat_map rows_of groups
  pub joined : AllByRecursion (IsGroup ranges threshold limit) groups
  pub apart : AreApart ranges threshold limit groups
  pub made : new ≡ map joined_row groups
