-- How much of the watched memory is hot, and how much is cold.
use Rattle.std.specs.Prelude.{ℕ, ◌*◌, ◌/◌, ◌==◌, List, filter}
use Rattle.damon_types.specs.declared.row.Row.{Row}
use Rattle.damon_types.specs.RowPages.{row_pages, working_set}
use Rattle.quota_goal.specs.declared.seen.Seen.{Seen}

-- the pages that were not accessed: those of rows with count 0
abbrev pub cold_pages : List Row → ℕ
cold_pages rows = row_pages (filter (λ r. r.count == 0) rows)

-- a part of a whole in thousandths, rounded down
abbrev pub thousandths : ℕ → ℕ → ℕ
thousandths part whole = 1000 * part / whole

-- the shares of hot and of cold pages among all pages of the rows
abbrev pub seen : List Row → Seen
seen rows = record {
  hot = thousandths (working_set rows) (row_pages rows);
  cold = thousandths (cold_pages rows) (row_pages rows);
}
