-- Rows merged from left to right.
use Rattle.std.specs.Prelude.{ℕ, ◌+◌, Bool, ◌&&◌, nat_le, List, [], ◌∷◌, if◌then◌else◌}
use Rattle.damon_types.specs.declared.range.Range.{Range}
use Rattle.damon_types.specs.declared.row.Row.{Row}
use Rattle.region_list.specs.Join.{join}
use Rattle.region_list.specs.Shrink.{in_one_range, difference}

-- the page after the last page of a row
abbrev pub row_end : Row → ℕ
row_end r = r.start + r.pages

-- whether the counts of two rows differ by at most the threshold, and they have at most `limit` pages together
abbrev pub is_within : ℕ → ℕ → Row → Row → Bool
is_within threshold limit a b = nat_le (difference a b) threshold && nat_le (a.pages + b.pages) limit

-- whether row b is joined to row a, the row merged so far: one range holds both, and they are within these bounds
abbrev pub may_join : List Range → ℕ → ℕ → Row → Row → Bool
may_join ranges threshold limit a b = in_one_range ranges a b && is_within threshold limit a b

-- row a, the row merged so far, and the rows after it, merged
abbrev pub merged_from : List Range → ℕ → ℕ → Row → List Row → List Row
merged_from ranges threshold limit a [] = a ∷ []
merged_from ranges threshold limit a (b ∷ rows) =
    if may_join ranges threshold limit a b then merged_from ranges threshold limit (join a b) rows
    else a ∷ merged_from ranges threshold limit b rows

-- the rows merged from left to right
abbrev pub merged : List Range → ℕ → ℕ → List Row → List Row
merged ranges threshold limit [] = []
merged ranges threshold limit (a ∷ rows) = merged_from ranges threshold limit a rows
