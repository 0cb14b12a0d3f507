-- Which journals and receipts are lawful.
use Rattle.std.specs.Prelude.{ℕ, ◌+◌, ◌<◌, List, [], ◌∷◌, map}
use Rattle.std.specs.List.{AllByRecursion, Contains, flat_map}
use Rattle.damon_types.specs.Listed.{Listed}
use Rattle.damon_types.specs.Space.{pages_of}
use Rattle.page_words.specs.declared.view.Entry.{Entry as Step}
use Rattle.page_words.specs.declared.view.Entry.TheVariants.{Gathered, Load}
use Rattle.page_words.specs.declared.view.Touch.{Touch}
use Rattle.page_words.specs.Clauses.{TagsNameClears}
use Rattle.page_words.specs.Clears.{IsOdd, pass_of}
use Rattle.page_words.specs.Views.{TagsRise, touch}
use Rattle.damon_control.specs.Live.{LiveValue}
use Rattle.run_journal.specs.declared.entry.Receipt.{Receipt}
use Rattle.run_journal.specs.Phases.{IsIdle}
use Rattle.run_journal.specs.Replay.{IsJournalOf, JournalValue, replay}
use Rattle.run_journal.specs.Steps.{steps}

-- the receipts of each worker, as the program keeps them
abbrev pub receipts_said : Listed (Listed Receipt) → List (List Receipt)
receipts_said receipts = map (λ rs. rs.list) receipts.list

-- the touches that receipts are of
abbrev pub touches_of : List Receipt → List Touch
touches_of rs = map (λ r. touch r.page r.tag) rs

-- the receipts of all workers in order
abbrev pub all_of : List (List Receipt) → List Receipt
all_of all = flat_map (λ rs. rs) all

-- some worker has a receipt of this page with this tag
abbrev pub Received : List (List Receipt) → ℕ → ℕ → Type 0
Received all page tag = Contains (touches_of (all_of all)) (touch page tag)

-- The seats of all workers, gathered one after another, the first with this number.
abbrev pub gathers : ℕ → List (List Receipt) → List Step
gathers k [] = []
gathers k (rs ∷ all) = Gathered k (touches_of rs) ∷ gathers (k + 1) all

-- The rules of receipts: each is of a page of the space; each load that was a hit has one with its pass; a worker's tags of
-- one page never fall; and a tag is 0 or the number of a pass that cleared the page, and so none is above the last such pass.
pub record AreReceipts (pages : ℕ) (done : List Step) (all : List (List Receipt)) : Type 0 where
  pub within : AllByRecursion (λ r. r.page < pages) (all_of all)
  pub hits : (page word : ℕ) → Contains done (Load page word) → IsOdd word → Received all page (pass_of word)
  pub rise : AllByRecursion (λ rs. TagsRise (touches_of rs)) all
  pub name : TagsNameClears done (Received all)

-- a journal of the script, which ends between two passes, with receipts by the rules. (That an aggregation follows at once
-- where one is due needs no word: in Due no other entry fits, and the last phase is Idle.)
pub record IsLawful (v : LiveValue) (j : JournalValue) (all : List (List Receipt)) : Type 0 where
  pub journal : IsJournalOf v j
  pub idle : IsIdle (replay v j).state.core.phase
  pub receipts : AreReceipts (pages_of v.setup.space) (steps v j) all
