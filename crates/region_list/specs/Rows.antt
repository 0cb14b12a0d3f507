-- Lists of rows, as contracts see them.
use Rattle.std.specs.Prelude.{ℕ, ◌+◌, ◌-◌, List, ◌∷◌, ◌++◌, take, drop, slice_set, slice_index_or}
use Rattle.damon_types.specs.declared.row.Row.{Row}

-- rows, and the number for which there is room
pub record RowList : Type 0 where
  pub rows : List Row
  pub cap : ℕ

-- the row that stands for an index past the end
abbrev pub no_row : Row
no_row = record { target = 0; start = 0; pages = 0; count = 0; last = 0; age = 0 }

-- the row with this index
abbrev pub row_at : List Row → ℕ → Row
row_at rows i = slice_index_or rows i no_row

-- the rows with another count, last count and age at one index
abbrev pub with_values : List Row → ℕ → ℕ → ℕ → ℕ → List Row
with_values rows i count last age = slice_set rows i (record (row_at rows i) { count = count; last = last; age = age })

-- the rows with two others in the place of the one with this index
abbrev pub with_two : List Row → ℕ → Row → Row → List Row
with_two rows i first second = take i rows ++ (first ∷ second ∷ drop (i + 1) rows)

-- the row with this index cut in two after this many of its pages: both parts have its count, last count and age
abbrev pub cut_after : List Row → ℕ → ℕ → List Row
cut_after rows i pages =
    let r = row_at rows i in
    with_two rows i (record r { pages = pages }) (record r { start = r.start + pages; pages = r.pages - pages })
