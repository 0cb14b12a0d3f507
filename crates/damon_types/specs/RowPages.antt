-- How many pages rows have, and how many of them were accessed.
use Rattle.std.specs.Prelude.{ℕ, nat_le, List, filter, sum_by}
use Rattle.damon_types.specs.declared.row.Row.{Row}

-- the number of pages of the rows
abbrev pub row_pages : List Row → ℕ
row_pages rows = sum_by (λ r. r.pages) rows

-- the working set: the number of pages that were accessed, which are those of rows with a count of at least 1
abbrev pub working_set : List Row → ℕ
working_set rows = row_pages (filter (λ r. nat_le 1 r.count) rows)
