-- Which rows a scheme may be applied to.
use Rattle.std.specs.Prelude.{ℕ, Bool, ◌&&◌, nat_lt, List, length, filter, filter_map, count_by, Option, Some, None, if◌then◌else◌}
use Rattle.std.specs.List.{range_with_len}
use Rattle.damon_types.specs.declared.range.Range.{Range}
use Rattle.damon_types.specs.declared.row.Row.{Row}
use Rattle.damon_types.specs.declared.scheme.Scheme.{Scheme}
use Rattle.damon_types.specs.declared.space.Target.{Target}
use Rattle.damon_types.specs.Ranges.{page_total}
use Rattle.damon_types.specs.Span.{Span, span_of}
use Rattle.scheme_match.specs.Match.{is_match}
use Rattle.scheme_filter.specs.Passes.{passes}
use Rattle.priority.specs.declared.candidates.Candidate.{Candidate}
use Rattle.priority.specs.Score.{score_of}

-- the pages that pass of those where a row lies, in order
abbrev pub passing_pages : (ℕ → Bool) → Span → List ℕ
passing_pages passes s = filter passes (range_with_len s.start s.pages)

-- The row as a candidate of a scheme, if it matches and a page of it passes the filters. An aggregation has `aggr` passes. No
-- page of it is taken yet.
abbrev pub candidate_of : List Target → List Range → ℕ → Scheme → Row → Option Candidate
candidate_of space ranges aggr scheme r =
    let n = length (passing_pages (passes scheme.filters space ranges) (span_of r)) in
    if is_match scheme.pattern r && nat_lt 0 n
    then Some (record { target = r.target; start = r.start; score = score_of r (page_total ranges) aggr scheme; passing = n; share = 0 })
    else None

-- the candidates among rows, in the order of the rows
abbrev pub candidates_of : List Target → List Range → ℕ → Scheme → List Row → List Candidate
candidates_of space ranges aggr scheme rows = filter_map (candidate_of space ranges aggr scheme) rows

-- how many rows match a scheme
abbrev pub matching_rows : Scheme → List Row → ℕ
matching_rows scheme rows = count_by (is_match scheme.pattern) rows
