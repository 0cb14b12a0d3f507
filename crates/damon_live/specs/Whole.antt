-- A whole run of a live script.
use Rattle.std.specs.Prelude.{◌≡◌, ℕ, ◌<◌, ◌≤◌, List, All, map}
use Rattle.std.specs.List.{range_with_len}
use Rattle.damon_types.specs.Space.{pages_of}
use Rattle.damon_core.specs.Reached.{CanOpen}
use Rattle.damon_control.specs.Live.{LiveValue}
use Rattle.damon_control.specs.declared.live.LiveScript.{LiveScript}
use Rattle.run_journal.specs.declared.entry.Receipt.{Receipt}
use Rattle.run_journal.specs.Few.{HitsAreFew}
use Rattle.run_journal.specs.Lawful.{IsLawful}
use Rattle.run_journal.specs.Phases.{IsIdle}
use Rattle.run_journal.specs.Replay.{JournalValue, replay}
use Rattle.run_journal.specs.Woven.{WovenRuns}
use Rattle.damon_live.specs.Kept.{calls_asked, calls_made, indexes}
use Rattle.damon_live.specs.Machine.{passes_made}

-- the pages that receipts are of, in order
abbrev pub pages_touched : List Receipt → List ℕ
pages_touched rs = map (λ r. r.page) rs

-- The journal and the receipts of a whole run: the setup is within its limits; they are lawful, and woven together they are one run of the
-- monitor; each page has at most as many hits as receipts; all passes were made; each controller made all its calls, in order and once
-- each; and each worker touched the pages of its trace, in order.
pub record IsWholeRun (v : LiveValue) (j : JournalValue) (all : List (List Receipt)) : Type 0 where
  pub opens : CanOpen v.setup
  pub lawful : IsLawful v j all
  pub woven : WovenRuns v j all
  pub few : HitsAreFew v j all
  pub passes : passes_made j ≡ v.passes
  pub calls : (c : ℕ) → indexes c j.entries ≡ range_with_len 0 (calls_asked c v)
  pub traces : map pages_touched all ≡ v.workers

-- all passes and all calls of a script were made
pub record AreAllMade (v : LiveValue) (j : JournalValue) : Type 0 where
  pub idle : IsIdle (replay v j).state.core.phase
  pub passes : v.passes ≤ passes_made j
  pub calls : (c : ℕ) → calls_asked c v ≤ calls_made c j

-- each page of the traces is a page of the space
abbrev pub AreInSpace : LiveValue → Type 0
AreInSpace v = All (λ t. All (λ p. p < pages_of v.setup.space) t) v.workers

-- the same of a script, as it is read
abbrev pub TracesAreInSpace : LiveScript → Type 0
TracesAreInSpace s = All (λ t. All (λ p. p < pages_of s.setup.space) t.list) s.workers.list
