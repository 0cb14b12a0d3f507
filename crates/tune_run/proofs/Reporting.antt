-- A report after an aggregation has pages.
use Rattle.std.proofs.Common.{ℕ, ◌+◌, ◌<◌, ◌≤◌, List, [], ◌∷◌, length, sym, subst, arith}
use Rattle.std.specs.List.{AllByRecursion}
use Rattle.std.proofs.lemmas.List.Sums.{sum_by-cons}
use Rattle.damon_types.specs.declared.row.Row.{Row}
use Rattle.damon_types.specs.RowPages.{row_pages}
use Rattle.aggregator.specs.Cleared.{cleared}
use Rattle.region_split.specs.Split.{split_rows}

-- rows whose split has a row, each with a page
pub some_pages : (max unit before pages : ℕ) (words : List ℕ) (rows : List Row) → 0 < length (split_rows max unit before words (cleared rows))
    → AllByRecursion (λ r. (1 ≤ r.pages) × (r.start + r.pages ≤ pages)) rows → 1 ≤ row_pages rows
some_pages max unit before pages words [] some each = absurd (omega arith)
some_pages max unit before pages words (r ∷ rows) some each =
    let first : 1 ≤ r.pages = each.0.0 in
    subst (λ n. 1 ≤ n) (sym (sum_by-cons (λ (x : Row). x.pages) r rows)) (omega (arith, first))
