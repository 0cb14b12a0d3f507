-- What a journal text says, and the places between its lines.
use Rattle.std.specs.Prelude.{ℕ, List, [], ◌∷◌}
use Rattle.live_commit.specs.Commit.{CommitValue}
use Rattle.damon_control.specs.declared.grammar.Grammar.TheVariants.{OfJournal}
use Rattle.damon_control.specs.Live.{CallValue, LiveValue}
use Rattle.damon_control.specs.Script.{AtEnd, HeadValue, Place}
use Rattle.run_journal.specs.declared.entry.Receipt.{Receipt}
use Rattle.run_journal.specs.Replay.{JournalValue}
use Rattle.run_journal.specs.Room.{nothing_said}

-- what a journal text says: its seed, its setup and its calls as those of a live script, its journal and its receipts
pub record JournalRead : Type 0 where
  pub live : LiveValue
  pub journal : JournalValue
  pub receipts : List (List Receipt)

-- A place between two lines: what the lines before it have said, and so what the next may say. The last lines are those that the
-- state wants.
pub data JournalPlace : Type 0 where
  InHead : Place OfJournal → JournalPlace
  InEntries : LiveValue → JournalValue → JournalPlace
  InBlock : LiveValue → JournalValue → ℕ → CommitValue → JournalPlace
  AtAnswer : LiveValue → JournalValue → ℕ → CallValue → JournalPlace
  InReceipts : LiveValue → JournalValue → List (List Receipt) → JournalPlace
  AtLast : JournalRead → List (List ℕ) → JournalPlace

-- a live script without calls: its seed and its setup, and four controllers
abbrev pub uncalled : HeadValue → LiveValue
uncalled h = record { seed = h.seed; setup = h.setup; passes = 0; workers = []; controllers = [] ∷ [] ∷ [] ∷ [] ∷ [] }

-- the place after a line of the head: after its last line, that before the first entry
abbrev pub after_head : Place OfJournal → JournalPlace
after_head (AtEnd h) = InEntries (uncalled h) nothing_said
after_head p = InHead p
