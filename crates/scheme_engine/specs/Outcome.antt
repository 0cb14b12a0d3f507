-- What one run of a scheme amounts to.
use Rattle.std.specs.Prelude.{ℕ, ◌+◌, ◌-◌, Bool, true, false, ◌&&◌, ◌==◌, nat_lt, nat_le, List, [], ◌∷◌, length, find, Option, None, if◌then◌else◌}
use Rattle.std.specs.List.{flat_map, last_or}
use Rattle.std.specs.Option.{option_map_or}
use Rattle.damon_types.specs.declared.row.Row.{Row}
use Rattle.damon_types.specs.declared.scheme.Action.{Action}
use Rattle.damon_types.specs.declared.scheme.Action.TheVariants.{Stat}
use Rattle.damon_types.specs.declared.scheme.Scheme.{Scheme}
use Rattle.damon_types.specs.declared.space.Target.{Target}
use Rattle.damon_types.specs.Span.{Span, span_of, spans}
use Rattle.region_list.specs.Regions.{RegionList}
use Rattle.scheme_filter.specs.Passes.{passes}
use Rattle.priority.specs.declared.candidates.Candidate.{Candidate}
use Rattle.priority.specs.Chosen.{taken_of, lowest_of, leaves_pages}
use Rattle.priority.specs.Order.{in_order}
use Rattle.priority.specs.Share.{with_shares}
use Rattle.scheme_engine.specs.declared.applied.AppliedRun.{AppliedRun}
use Rattle.scheme_engine.specs.Candidates.{candidates_of, matching_rows}
use Rattle.scheme_engine.specs.Taken.{applied_runs, taken_pages}

-- the candidates of a scheme in priority order, each with its share of what is left of the quota
abbrev pub chosen_of : List Target → ℕ → Scheme → Option ℕ → RegionList → List Candidate
chosen_of space aggr scheme left regions =
    in_order (with_shares left (candidates_of space regions.ranges aggr scheme regions.rows))

-- whether an action changes rows: all do, but `stat`
abbrev pub changes_rows : Action → Bool
changes_rows Stat = false
changes_rows _ = true

-- after how many of its pages a row is cut, of which the first n passing pages are taken: after the last one taken
abbrev pub taken_until : (ℕ → Bool) → ℕ → Span → ℕ
taken_until passes n s = option_map_or (λ p. p + 1) (last_or None (taken_pages passes n s)) 0 - s.start

-- Whether a row may be cut after `at` of its pages: there is room for one row more, and both sides have the minimum size.
abbrev pub may_cut_row : RegionList → ℕ → Row → Bool
may_cut_row regions at r =
    nat_lt (length regions.rows) regions.max && (nat_le regions.unit at && nat_le regions.unit (r.pages - at))

-- a row that is taken whole
abbrev pub renewed : Row → Row
renewed r = record r { age = 0 }

-- the first `at` pages of a row, which are new, and the others, which are as old as the row
abbrev pub cut_in_two : ℕ → Row → List Row
cut_in_two at r = record r { pages = at; age = 0 } ∷ record r { start = r.start + at; pages = r.pages - at } ∷ []

-- What becomes of the row of a candidate. Where all its passing pages are taken, its age is 0. Where some are taken but not all,
-- it is cut after the last one taken, if it may be cut there.
abbrev pub row_after : RegionList → (ℕ → Bool) → Row → Candidate → List Row
row_after regions passes r c =
    let at = taken_until passes c.share (span_of r) in
    if c.share == c.passing then renewed r ∷ []
    else if nat_lt 0 c.share && may_cut_row regions at r then cut_in_two at r
    else r ∷ []

-- the rows after an action: where it changes rows, each row by itself by the candidate that starts where it does, if there is one
abbrev pub rows_after : Action → RegionList → (ℕ → Bool) → List Candidate → List Row
rows_after action regions passes cs =
    if changes_rows action
    then flat_map (λ r. option_map_or (row_after regions passes r) (find (λ c. c.start == r.start) cs) (r ∷ [])) regions.rows
    else regions.rows

-- What a run of a scheme amounts to: the runs that it is applied to, the number of rows that match, the number of pages taken,
-- the lowest score of a candidate of which a page is taken, whether a passing page is not taken, and the rows after it.
pub record Outcome : Type 0 where
  pub runs : List AppliedRun
  pub tried : ℕ
  pub taken : ℕ
  pub lowest : Option ℕ
  pub exceeds : Bool
  pub rows : List Row

-- the outcome of a scheme in the slot with this number, where `left` is what is left of its quota
abbrev pub outcome_of : ℕ → List Target → ℕ → Scheme → Option ℕ → RegionList → Outcome
outcome_of slot space aggr scheme left regions =
    let passes = passes scheme.filters space regions.ranges in
    let cs = chosen_of space aggr scheme left regions in
    record {
      runs = applied_runs slot passes (spans regions.rows) cs;
      tried = matching_rows scheme regions.rows;
      taken = taken_of cs;
      lowest = lowest_of cs;
      exceeds = leaves_pages cs;
      rows = rows_after scheme.action regions passes cs;
    }
