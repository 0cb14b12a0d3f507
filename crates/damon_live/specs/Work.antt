-- What workers are given, and what they did.
use Rattle.std.specs.Prelude.{◌≡◌, ℕ, ◌<◌, List, [], ◌∷◌, ◌++◌, length, slice_index_or}
use Rattle.atomic_table.specs.Seated.{TableId}
use Rattle.damon_types.specs.Space.{pages_of}
use Rattle.page_words.specs.declared.view.Entry.{Entry as Step}
use Rattle.page_words.specs.declared.view.Entry.TheVariants.{Gathered}
use Rattle.damon_control.specs.Live.{LiveValue}
use Rattle.damon_control.specs.LiveView.{live_said}
use Rattle.damon_control.specs.declared.live.LiveScript.{LiveScript}
use Rattle.run_journal.specs.declared.entry.Receipt.{Receipt}
use Rattle.run_journal.specs.Lawful.{touches_of}
use Rattle.damon_live.specs.Whole.{AreInSpace, pages_touched}

-- what threads share is this table of page words, and a script that says this; there is a word for each page of its traces
pub record IsShared (place : TableId) (v : LiveValue) (words : TableId) (script : LiveScript) : Type 0 where
  pub table : words ≡ place
  pub said : live_said script ≡ v
  pub space : place.words ≡ pages_of v.setup.space
  pub pages : AreInSpace v

-- the trace of a worker, without a page where there is no such worker
abbrev pub trace_of : LiveValue → ℕ → List ℕ
trace_of v worker = slice_index_or v.workers worker []

-- the numbers of these are 0, 1, 2 and so on
abbrev pub AreNumbered : {A : Type 0} → (A → ℕ) → List A → Type 0
AreNumbered {A = A} number xs = (i : ℕ) (x : A) → i < length xs → number (slice_index_or xs i x) ≡ i

-- a worker's seat was gathered: its receipts are one list more, and their pages are those of its trace
pub record IsGathered (v : LiveValue) (worker : ℕ) (old new : List Step) (before after : List (List Receipt)) : Type 0 where
  pub receipts : List Receipt
  pub more : after ≡ before ++ receipts ∷ []
  pub entries : new ≡ old ++ Gathered worker (touches_of receipts) ∷ []
  pub trace : pages_touched receipts ≡ trace_of v worker
