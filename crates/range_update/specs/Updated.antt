-- The rows of new ranges.
use Rattle.std.specs.Prelude.{ℕ, ◌+◌, ◌-◌, Bool, ◌&&◌, nat_le, nat_lt, List, [], ◌∷◌, find, Option, Some, None, if◌then◌else◌}
use Rattle.std.specs.List.{flat_map}
use Rattle.damon_types.specs.declared.range.Range.{Range}
use Rattle.damon_types.specs.declared.row.Row.{Row}
use Rattle.damon_types.specs.Ranges.{end_of}
use Rattle.region_list.specs.Division.{fresh}
use Rattle.region_list.specs.Shrink.{shrunk}
use Rattle.range_update.specs.Order.{row_end}

-- the row that covers a page, if any
abbrev pub covering_row : List Row → ℕ → Option Row
covering_row rows page = find (λ r. nat_le r.start page && nat_lt page (row_end r)) rows

-- a row of target t with the pages from `from` to before `to`, and the values of another row, or zeros
abbrev pub piece_of : Option Row → ℕ → ℕ → ℕ → Row
piece_of None t from to = fresh t from (to - from)
piece_of (Some r) t from to = record r { target = t; start = from; pages = to - from }

-- a piece of a range: its values are those of the old row that covers its first page
abbrev pub piece : List Row → ℕ → ℕ → ℕ → Row
piece rows t from to = piece_of (covering_row rows from) t from to

-- where old rows start and end
abbrev pub boundaries : List Row → List ℕ
boundaries rows = flat_map (λ r. r.start ∷ row_end r ∷ []) rows

-- whether a boundary x is at least `unit` pages after the boundary kept last, and at least `unit` pages before the end of the range
abbrev pub may_keep : ℕ → ℕ → ℕ → ℕ → Bool
may_keep unit end last x = nat_le (last + unit) x && nat_le (x + unit) end

-- the boundaries that are kept, in ascending order; `last` is the first page of the range or the boundary kept last
abbrev pub kept : ℕ → ℕ → ℕ → List ℕ → List ℕ
kept unit end last [] = []
kept unit end last (x ∷ xs) = if may_keep unit end last x then x ∷ kept unit end x xs else kept unit end last xs

-- the pieces from page `from` to the end of a range of target t, cut at these boundaries
abbrev pub pieces : List Row → ℕ → ℕ → ℕ → List ℕ → List Row
pieces rows t end from [] = piece rows t from end ∷ []
pieces rows t end from (k ∷ ks) = piece rows t from k ∷ pieces rows t end k ks

-- the pieces of a new range
abbrev pub range_pieces : ℕ → List Row → Range → List Row
range_pieces unit rows g = pieces rows g.target (end_of g) g.first (kept unit (end_of g) g.first (boundaries rows))

-- the pieces of all new ranges
abbrev pub all_pieces : ℕ → List Row → List Range → List Row
all_pieces unit rows gs = flat_map (range_pieces unit rows) gs

-- the rows of new ranges: the pieces of all, shrunk to at most `max`
abbrev pub updated : ℕ → ℕ → List Row → List Range → List Row
updated unit max rows gs = shrunk gs max (all_pieces unit rows gs)
