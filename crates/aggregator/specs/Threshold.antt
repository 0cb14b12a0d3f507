-- The threshold of an aggregation: a change of a count by at most the threshold is small.
use Rattle.std.specs.Prelude.{ℕ, ◌/◌, max, fold, List}
use Rattle.damon_types.specs.declared.row.Row.{Row}

-- a tenth of the highest count of any row, rounded down; 0 where there are no rows
abbrev pub threshold : List Row → ℕ
threshold rows = fold (λ most r. max most r.count) 0 rows / 10
