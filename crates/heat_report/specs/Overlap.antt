-- Internal to the proofs: the heat of columns, row by row.
use Rattle.std.specs.Prelude.{ℕ, ◌+◌, ◌-◌, ◌*◌, min, max, List, sum_by}
use Rattle.damon_types.specs.declared.row.Row.{Row}
use Rattle.heat_report.specs.Heat.{border}

-- how many pages of the row lie from page `from` to before page `to`
abbrev pub overlap : Row → ℕ → ℕ → ℕ
overlap r from to = min (r.start + r.pages) to - max r.start from

-- how many pages of the row lie in column j
abbrev pub pages_in : ℕ → ℕ → ℕ → ℕ → Row → ℕ
pages_in first pages n j r = overlap r (border first pages n j) (border first pages n (j + 1))

-- what the rows add to the heat of column j
abbrev pub added : ℕ → ℕ → ℕ → ℕ → List Row → ℕ
added first pages n j rows = sum_by (λ r. r.count * pages_in first pages n j r) rows
