-- How many hits a page has.
use Rattle.std.specs.Prelude.{ℕ, ◌≤◌, ◌==◌, ◌%◌, ◌&&◌, Bool, false, List, filter, length}
use Rattle.page_words.specs.declared.view.Entry.{Entry as Step}
use Rattle.page_words.specs.declared.view.Entry.TheVariants.{Load}
use Rattle.damon_control.specs.Live.{LiveValue}
use Rattle.run_journal.specs.declared.entry.Receipt.{Receipt}
use Rattle.run_journal.specs.Lawful.{all_of}
use Rattle.run_journal.specs.Replay.{JournalValue}
use Rattle.run_journal.specs.Steps.{steps}

-- whether a step is a load of this page that was a hit: its word is odd
abbrev pub is_hit_of : ℕ → Step → Bool
is_hit_of page (Load p word) = (p == page) && (word % 2 == 1)
is_hit_of page _ = false

-- the results 1 of a page
abbrev pub hits_of : LiveValue → JournalValue → ℕ → ℕ
hits_of v j page = length (filter (is_hit_of page) (steps v j))

-- the receipts of a page
abbrev pub receipts_of : List (List Receipt) → ℕ → ℕ
receipts_of all page = length (filter (λ r. r.page == page) (all_of all))

-- each page was found touched by at most as many loads as it has receipts
abbrev pub HitsAreFew : LiveValue → JournalValue → List (List Receipt) → Type 0
HitsAreFew v j all = (page : ℕ) → hits_of v j page ≤ receipts_of all page
