-- Runs of passing pages.
use Rattle.std.specs.Prelude.{◌≡◌, ℕ, zero, suc, ◌+◌, ◌≤◌, ◌<◌, Bool, ◌&&◌, ◌==◌, nat_lt, nat_le, List, [], ◌∷◌, length, All, AllPairs, if◌then◌else◌}
use Rattle.std.specs.List.{list_any}
use Rattle.scheme_filter.specs.declared.runs.TheConstants.{MAX_RUNS}
use Rattle.scheme_filter.specs.declared.runs.Run.{Run}

-- the page after the last one
abbrev pub run_end : Run → ℕ
run_end r = r.start + r.pages

-- whether the run holds the page
abbrev pub run_holds : ℕ → Run → Bool
run_holds page r = nat_le r.start page && nat_lt page (run_end r)

-- The runs hold exactly the pages that pass, from page `from` to before page `to`. They are in order, each has a page, and
-- between any two of them lies a page that does not pass; so no run can be longer.
pub record AreLongest (passes : ℕ → Bool) (from to : ℕ) (runs : List Run) : Type 0 where
  pub exact : (p : ℕ) → from ≤ p → p < to → list_any (run_holds p) runs ≡ passes p
  pub some : All (λ r. 1 ≤ r.pages) runs
  pub within : All (λ r. (from ≤ r.start) × (run_end r ≤ to)) runs
  pub apart : AllPairs (λ r s. run_end r < s.start) runs

-- runs with a page before them: it lengthens the first run where that begins at the next page, and else it is a run
abbrev pub with_page : ℕ → List Run → List Run
with_page page [] = record { start = page; pages = 1 } ∷ []
with_page page (r ∷ rs) =
    if r.start == page + 1 then record { start = page; pages = r.pages + 1 } ∷ rs
    else record { start = page; pages = 1 } ∷ r ∷ rs

-- the runs of the passing pages among the n pages from one on, found page by page
abbrev pub runs_of : (ℕ → Bool) → ℕ → ℕ → List Run
runs_of passes page zero = []
runs_of passes page (suc n) = if passes page then with_page page (runs_of passes (page + 1) n) else runs_of passes (page + 1) n

-- the first `len` places hold runs
pub record IsRunList (places : List Run) (len : ℕ) : Type 0 where
  pub count : length places ≡ MAX_RUNS
  pub few : len ≤ MAX_RUNS
