-- The text that a whole run writes is read back.
use Rattle.std.specs.Prelude.{◌≡◌, ℕ, List, Ok}
use Rattle.damon_control.specs.Live.{LiveValue}
use Rattle.damon_control.specs.Script.{live_of}
use Rattle.run_journal.specs.declared.entry.Receipt.{Receipt}
use Rattle.run_journal.specs.Replay.{JournalValue}
use Rattle.journal_text.specs.Rules.{IsReadBack, IsSpellable}
use Rattle.damon_live.specs.Whole.{IsWholeRun}

-- a text can spell the journal and the receipts of each whole run of a script that a text is read as
abbrev pub WholeRunsAreSpellable : Type 0
WholeRunsAreSpellable =
    (text : List ℕ) (v : LiveValue) (j : JournalValue) (all : List (List Receipt)) → live_of text ≡ Ok v → IsWholeRun v j all → IsSpellable v j all

-- its text is read as a journal: the one that the run ended with, with its receipts
abbrev pub WholeRunsAreReadBack : Type 0
WholeRunsAreReadBack =
    (text : List ℕ) (v : LiveValue) (j : JournalValue) (all : List (List Receipt)) → live_of text ≡ Ok v → IsWholeRun v j all → IsReadBack v j all
