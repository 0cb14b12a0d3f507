-- The heat of the columns of a target.
use Rattle.std.specs.Prelude.{ℕ, ◌+◌, ◌-◌, ◌*◌, ◌/◌, ◌==◌, List, map, filter, find, sum_by, slice_get}
use Rattle.std.specs.List.{range_with_len}
use Rattle.std.specs.Option.{option_map_or}
use Rattle.damon_types.specs.declared.row.Row.{Row}
use Rattle.damon_types.specs.declared.space.Target.{Target}
use Rattle.damon_types.specs.Space.{offset}
use Rattle.region_list.specs.Find.{holds_page}

-- the number of pages of target i
abbrev pub target_pages : List Target → ℕ → ℕ
target_pages ts i = option_map_or (λ t. t.pages) (slice_get ts i) 0

-- where column j begins if `pages` pages from page `first` on are divided into n columns; the column before it ends there
abbrev pub border : ℕ → ℕ → ℕ → ℕ → ℕ
border first pages n j = first + j * pages / n

-- the count of the row that holds the page, or 0 where no row holds it
abbrev pub count_at : List Row → ℕ → ℕ
count_at rows page = option_map_or (λ r. r.count) (find (holds_page page) rows) 0

-- the sum of these counts over the pages from page `from` to before page `to`
abbrev pub heat_between : List Row → ℕ → ℕ → ℕ
heat_between rows from to = sum_by (count_at rows) (range_with_len from (to - from))

-- the heat of each of n columns
abbrev pub heats : List Row → ℕ → ℕ → ℕ → List ℕ
heats rows first pages n =
    map (λ j. heat_between rows (border first pages n j) (border first pages n (j + 1))) (range_with_len 0 n)

-- the heat of each of the n columns of a target
abbrev pub target_heats : List Row → List Target → ℕ → ℕ → List ℕ
target_heats rows ts target n = heats rows (offset ts target) (target_pages ts target) n

-- the sum of pages × count over the rows of a target
abbrev pub target_total : List Row → ℕ → ℕ
target_total rows target = sum_by (λ r. r.pages * r.count) (filter (λ r. r.target == target) rows)
