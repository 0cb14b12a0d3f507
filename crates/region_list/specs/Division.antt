-- The initial division of ranges into rows.
use Rattle.std.specs.Prelude.{ℕ, zero, suc, ◌+◌, ◌-◌, ◌*◌, ◌/◌, min, max, List, [], ◌∷◌}
use Rattle.std.specs.List.{flat_map}
use Rattle.damon_types.specs.declared.range.Range.{Range}
use Rattle.damon_types.specs.declared.row.Row.{Row}
use Rattle.damon_types.specs.Ranges.{end_of, page_total}

-- the number of rows that a range is divided into
abbrev pub range_row_count : ℕ → ℕ → ℕ → Range → ℕ
range_row_count unit least total g = min (g.pages / unit) (max 1 (g.pages * least / total))

-- a row that has not been accessed
abbrev pub fresh : ℕ → ℕ → ℕ → Row
fresh t start pages = record { target = t; start = start; pages = pages; count = 0; last = 0; age = 0 }

-- n rows of this size that begin at page `at`; the last one ends at `end`
abbrev pub rows_from : ℕ → ℕ → ℕ → ℕ → ℕ → List Row
rows_from t size end zero at = []
rows_from t size end (suc zero) at = fresh t at (end - at) ∷ []
rows_from t size end (suc (suc n)) at = fresh t at size ∷ rows_from t size end (suc n) (at + size)

-- the rows of one range: all of one size but the last, which takes the rest
abbrev pub range_rows : ℕ → ℕ → ℕ → Range → List Row
range_rows unit least total g = let k = range_row_count unit least total g in rows_from g.target (g.pages / k) (end_of g) k g.first

-- the rows of all ranges in order
abbrev pub divided : ℕ → ℕ → List Range → List Row
divided unit least ranges = flat_map (range_rows unit least (page_total ranges)) ranges
