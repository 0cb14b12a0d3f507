-- Applying a scheme to one candidate after another, for the proofs of the code alone; `Outcome` says what it amounts to.
use Rattle.std.specs.Prelude.{◌≡◌, ℕ, ◌+◌, ◌-◌, ◌≤◌, ◌<◌, Bool, ◌&&◌, ◌==◌, nat_lt, min, List, [], ◌∷◌, ◌++◌, map, length, take, drop, slice_get, position, Option, Some, None, if◌then◌else◌}
use Rattle.std.specs.List.{last_or}
use Rattle.std.specs.Option.{option_map, option_map_or, option_or}
use Rattle.damon_types.specs.declared.row.Row.{Row}
use Rattle.damon_types.specs.declared.scheme.Action.{Action}
use Rattle.damon_types.specs.Span.{Span}
use Rattle.region_list.specs.Regions.{RegionList}
use Rattle.region_list.specs.Rows.{row_at}
use Rattle.scheme_filter.specs.declared.runs.Run.{Run}
use Rattle.scheme_filter.specs.Runs.{run_end}
use Rattle.priority.specs.declared.candidates.Candidate.{Candidate}
use Rattle.scheme_engine.specs.declared.cut.Part.{Part}
use Rattle.scheme_engine.specs.Candidates.{passing_pages}
use Rattle.scheme_engine.specs.Taken.{span_at}
use Rattle.scheme_engine.specs.Outcome.{changes_rows, cut_in_two, taken_until, may_cut_row, renewed}

-- the runs of the first n pages of runs
abbrev pub first_pages : ℕ → List Run → List Run
first_pages n [] = []
first_pages n (r ∷ rs) = if n == 0 then [] else record r { pages = min r.pages n } ∷ first_pages (n - r.pages) rs

-- the page after the last one of runs
abbrev pub end_of_runs : List Run → ℕ
end_of_runs rs = option_map_or run_end (last_or None rs) 0

-- A candidate stands for a row that lies at one of these places, and knows how many of its pages pass; its share is no more.
pub record IsCandidateOf (passes : ℕ → Bool) (ss : List Span) (c : Candidate) : Type 0 where
  pub index : ℕ
  pub span : Span
  pub at : slice_get ss index ≡ Some span
  pub start : c.start ≡ span.start
  pub target : c.target ≡ span.target
  pub passing : c.passing ≡ length (passing_pages passes span)
  pub some : 1 ≤ c.passing
  pub share : c.share ≤ c.passing

-- whether an action makes a row new because all passing pages of this candidate are taken, and the row is its row
abbrev pub makes_new : Action → Candidate → Row → Bool
makes_new action c r = changes_rows action && ((c.share == c.passing) && (c.start == r.start))

-- a row after an action on one candidate, without cuts
abbrev pub row_renewed : Action → Candidate → Row → Row
row_renewed action c r = if makes_new action c r then renewed r else r

-- all rows after an action on one candidate, without cuts
abbrev pub rows_renewed : Action → List Row → Candidate → List Row
rows_renewed action rows c = map (row_renewed action c) rows

-- the index of the row of a candidate
abbrev pub index_of : List Span → Candidate → Option ℕ
index_of ss c = position (λ s. s.start == c.start) ss

-- the row of a candidate, if some of its passing pages are taken but not all, and where it is cut
abbrev pub part_of : Action → (ℕ → Bool) → List Span → Candidate → Option Part
part_of action passes ss c =
    if changes_rows action && (nat_lt 0 c.share && nat_lt c.share c.passing)
    then option_map (λ i. record { index = i; pages = taken_until passes c.share (span_at ss c) }) (index_of ss c)
    else None

-- the last such row among the candidates so far, and then this one
abbrev pub next_part : Action → (ℕ → Bool) → List Span → Option Part → Candidate → Option Part
next_part action passes ss last c = option_or (part_of action passes ss c) last

-- the rows with one of them cut in two
abbrev pub cut_rows : ℕ → ℕ → List Row → List Row
cut_rows i at rows = take i rows ++ (cut_in_two at (row_at rows i) ++ drop (i + 1) rows)

-- the rows with one of them cut in two where it may be cut
abbrev pub rows_cut : RegionList → Part → List Row
rows_cut regions p = if may_cut_row regions p.pages (row_at regions.rows p.index) then cut_rows p.index p.pages regions.rows else regions.rows

-- a part names one of the rows, and is no longer than it
pub record IsPartOf (rows : List Row) (p : Part) : Type 0 where
  pub index : p.index < length rows
  pub pages : p.pages ≤ (row_at rows p.index).pages
