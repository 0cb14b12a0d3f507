-- The runs of a row, while they are found from left to right.
use Rattle.std.proofs.Common.{◌≡◌, ◌⊎◌, inl, inr, ℕ, ◌+◌, ◌-◌, ◌*◌, ◌<◌, ◌≤◌, Bool, true, false, not, List, [], ◌∷◌, ◌++◌, length, sym, ◌∙◌, subst, arith}
use Rattle.std.specs.Prelude.{All}
use Rattle.std.proofs.lemmas.Bool.{cases_lt}
use Rattle.std.proofs.lemmas.List.{length_push}
use Rattle.std.proofs.lemmas.List.Elements.{All-nil}
use Rattle.scheme_filter.specs.declared.runs.Run.{Run}
use Rattle.damon_types.specs.declared.filter.Filter.{Filter}
use Rattle.scheme_filter.specs.declared.row_pages.RowPages.{RowPages}
use Rattle.scheme_filter.specs.RowPages.{IsFirstWith, PassesChange, answer_at, changes, count_after}
use Rattle.scheme_filter.specs.Runs.{run_end, AreLongest}
use Rattle.scheme_filter.proofs.ChangeLemmas.{changes-few}
use Rattle.scheme_filter.proofs.LongestLemmas.{all_weaker, all_push, longest_none, longest_push}

-- What is found up to page `from`, where the next run begins unless it is the end of the row: the runs before it, and room
-- for more, since a change was passed for the begin and for the end of each.
pub record Found (fs : List Filter) (row : RowPages) (from : ℕ) (runs : List Run) : Type 0 where
  pub low : row.start ≤ from
  pub high : from ≤ row.end
  pub longest : AreLongest (answer_at fs row) row.start from runs
  pub before : from < row.end → All (λ r. run_end r < from) runs
  pub begins : from < row.end → answer_at fs row from ≡ true
  pub room : from < row.end → 2 * length runs + count_after from (changes row fs) ≤ 16

-- where the first run begins
pub found_first : (fs : List Filter) (row : RowPages) (from : ℕ) → length fs ≤ 8 → IsFirstWith fs row true row.start from → PassesChange fs row row.start from → Found fs row from []
found_first fs row from few first change = record {
  low = first.low;
  high = first.high;
  longest = longest_none (answer_at fs row) row.start from first.others;
  before = λ less. All-nil (λ (r : Run). run_end r < from);
  begins = first.found;
  room = λ less. room less (cases_lt row.start from);
}
  where
    most : count_after row.start (changes row fs) ≤ 16
    most = omega (arith, changes-few row row.start fs, few)

    room : from < row.end → (row.start < from) ⊎ (from ≤ row.start) → 0 + count_after from (changes row fs) ≤ 16
    room less (inl later) = omega (arith, change later less, most)
    room less (inr same) = let is : row.start ≡ from = omega (arith, same, first.low) in subst (λ n. 0 + count_after n (changes row fs) ≤ 16) is (omega (arith, most))

-- two searches for different answers, of which the second begins where the first one ends, do not end at one page of the row
ends_apart : (fs : List Filter) (row : RowPages) (wanted : Bool) (from to : ℕ) → from < row.end → answer_at fs row from ≡ not wanted → IsFirstWith fs row wanted from to → from < to
ends_apart fs row wanted from to less other first = by (cases_lt from to)
  where
    never : (v : Bool) → v ≡ not v → ⊥
    never true same = cc same
    never false same = cc same

    by : (from < to) ⊎ (to ≤ from) → from < to
    by (inl later) = later
    by (inr same) =
        let is : from ≡ to = omega (arith, same, first.low) in
        let here = subst (λ n. n < row.end → answer_at fs row n ≡ wanted) (sym is) first.found less in
        absurd (never wanted (sym here ∙ other))

-- one more run, from page `from` to before page `to`, and where the next one begins
pub found_next : (fs : List Filter) (row : RowPages) (from to next : ℕ) (runs : List Run) → from < row.end → Found fs row from runs → IsFirstWith fs row false from to → PassesChange fs row from to → IsFirstWith fs row true to next → PassesChange fs row to next → Found fs row next (runs ++ record { start = from; pages = to - from } ∷ [])
found_next fs row from to next runs less found ends change begins change_next = record {
  low = omega (arith, found.low, ends.low, begins.low);
  high = begins.high;
  longest = longest_push (answer_at fs row) row.start from to next runs found.low some begins.low ends.others begins.others (found.before less) found.longest;
  before = λ inside. all_push (λ r. run_end r < next) runs run (all_weaker (λ r. run_end r < from) (λ r. run_end r < next) runs (λ r early. omega (arith, early, ends.low, begins.low)) (found.before less)) (omega (arith, some, gap inside));
  begins = begins.found;
  room = λ inside. omega (arith, length_push runs run, found.room less, change some (omega (arith, begins.low, inside)), change_next (gap inside) inside);
}
  where
    run : Run
    run = record { start = from; pages = to - from }

    some : from < to
    some = ends_apart fs row false from to less (found.begins less) ends

    gap : next < row.end → to < next
    gap inside = let before : to < row.end = omega (arith, begins.low, inside) in ends_apart fs row true to next before (ends.found before) begins
