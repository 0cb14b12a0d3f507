-- Which pages of a row are taken.
use Rattle.std.specs.Prelude.{ℕ, Bool, ◌==◌, List, map, take, find}
use Rattle.std.specs.List.{list_any, flat_map}
use Rattle.std.specs.Option.{unwrap_or}
use Rattle.damon_types.specs.Span.{Span}
use Rattle.scheme_filter.specs.declared.runs.Run.{Run}
use Rattle.scheme_filter.specs.Runs.{runs_of}
use Rattle.priority.specs.declared.candidates.Candidate.{Candidate}
use Rattle.scheme_engine.specs.declared.applied.AppliedRun.{AppliedRun}
use Rattle.scheme_engine.specs.Candidates.{passing_pages}

-- the first n of those pages
abbrev pub taken_pages : (ℕ → Bool) → ℕ → Span → List ℕ
taken_pages passes n s = take n (passing_pages passes s)

-- their longest runs
abbrev pub taken_runs : (ℕ → Bool) → ℕ → Span → List Run
taken_runs passes n s = runs_of (λ p. list_any (λ q. q == p) (taken_pages passes n s)) s.start s.pages

-- where the row of a candidate lies: it starts where the candidate does; nowhere if no row does
abbrev pub span_at : List Span → Candidate → Span
span_at ss c = unwrap_or (find (λ s. s.start == c.start) ss) (record { target = 0; start = 0; pages = 0 })

-- a run of a candidate of the slot with this number
abbrev pub applied_run : ℕ → Candidate → Run → AppliedRun
applied_run slot c r = record { slot = slot; target = c.target; start = r.start; pages = r.pages; score = c.score }

-- the runs of the pages of a candidate that are taken
abbrev pub candidate_runs : ℕ → (ℕ → Bool) → List Span → Candidate → List AppliedRun
candidate_runs slot passes ss c = map (applied_run slot c) (taken_runs passes c.share (span_at ss c))

-- the runs of all candidates
abbrev pub applied_runs : ℕ → (ℕ → Bool) → List Span → List Candidate → List AppliedRun
applied_runs slot passes ss cs = flat_map (candidate_runs slot passes ss) cs
