-- How many pages were accessed how often.
use Rattle.std.specs.Prelude.{ℕ, ◌*◌, ◌/◌, ◌==◌, min, List, map, filter}
use Rattle.std.specs.List.{range_with_len}
use Rattle.damon_types.specs.declared.row.Row.{Row}
use Rattle.damon_types.specs.RowPages.{row_pages}

-- the count of a row in tenths of the passes of an aggregation, rounded down, and at most 10
abbrev pub tenths : ℕ → Row → ℕ
tenths aggr r = min 10 (10 * r.count / aggr)

-- for each number of tenths from 0 to 10, the pages of the rows that have it
abbrev pub freqs : ℕ → List Row → List ℕ
freqs aggr rows = map (λ i. row_pages (filter (λ r. tenths aggr r == i) rows)) (range_with_len 0 11)
