-- The runs of a range, kept for its rows.
use Rattle.std.specs.Prelude.{◌≡◌, ℕ, ◌-◌, ◌≤◌, min, max, Bool, List, [], ◌∷◌, Some, slice_get}
use Rattle.scheme_filter.specs.declared.runs.Run.{Run}
use Rattle.scheme_filter.specs.Runs.{AreLongest, run_end}

-- runs among the pages from page `from` to before page `to`
pub record RunsWithin : Type 0 where
  pub from : ℕ
  pub to : ℕ
  pub runs : List Run

-- they are the longest runs of the pages that pass
abbrev pub AreRunsOf : (ℕ → Bool) → RunsWithin → Type 0
AreRunsOf passes r = AreLongest passes r.from r.to r.runs

-- how many of the pages from `start` to before `end` a run holds
abbrev pub shared_of : ℕ → ℕ → Run → ℕ
shared_of start end r = min (run_end r) end - max r.start start

-- the first run holds all pages from `start` to before `end`
pub record IsInFirst (start end : ℕ) (runs : List Run) : Type 0 where
  pub first : Run
  pub is : slice_get runs 0 ≡ Some first
  pub from : first.start ≤ start
  pub to : end ≤ run_end first

-- the first page of the first run, 1 where there is no run
abbrev pub first_start : List Run → ℕ
first_start [] = 1
first_start (r ∷ rs) = r.start

-- the page after the first run, 0 where there is no run
abbrev pub first_end : List Run → ℕ
first_end [] = 0
first_end (r ∷ rs) = run_end r
