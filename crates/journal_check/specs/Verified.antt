-- A text that is verified.
use Rattle.std.specs.Prelude.{◌≡◌, ◌≢◌, ℕ, List, Ok, Result}
use Rattle.damon_core.specs.Reached.{CanOpen}
use Rattle.damon_control.specs.Live.{LiveValue}
use Rattle.run_journal.specs.declared.entry.Receipt.{Receipt}
use Rattle.journal_check.specs.declared.entries.kept.Kept.{Kept}
use Rattle.run_journal.specs.declared.lawful.Lawful.{Lawful}
use Rattle.run_journal.specs.Counted.{CountsOf}
use Rattle.run_journal.specs.Few.{HitsAreFew}
use Rattle.journal_check.specs.Kept.{IsKept}
use Rattle.run_journal.specs.Lawful.{IsLawful}
use Rattle.journal_text.specs.Place.{JournalRead}
use Rattle.run_journal.specs.Replay.{JournalValue}
use Rattle.journal_text.specs.Reading.{read_journal}
use Rattle.journal_text.specs.Rules.{IsSpellable, IsTextOfLawful}
use Rattle.journal_text.specs.Text.{journal_text}
use Rattle.run_journal.specs.Woven.{WovenRuns}

-- The text is read as this, which is lawful, and of which it is the text. Woven together the journal and the receipts are one run of the
-- monitor, of which the headline holds: each state along it is bound. Each page has at most as many hits as receipts.
pub record IsRunText (text : List ℕ) (said : JournalRead) : Type 0 where
  pub read : read_journal text ≡ Ok said
  pub lawful : IsTextOfLawful text said
  pub woven : WovenRuns said.live said.journal said.receipts
  pub few : HitsAreFew said.live said.journal said.receipts

-- the text is that of a run with these counts
pub record IsVerified (text : List ℕ) (counts : Lawful) : Type 0 where
  pub said : JournalRead
  pub run : IsRunText text said
  pub counted : CountsOf said.journal counts

-- no lawful journal that a text can spell has this text
abbrev pub IsOfNoLawfulRun : List ℕ → Type 0
IsOfNoLawfulRun text =
    (v : LiveValue) (j : JournalValue) (all : List (List Receipt)) → IsLawful v j all → IsSpellable v j all → text ≢ journal_text v j all

-- the text says a journal of a setup within its limits, with these counts, and this is kept of it
pub record IsReadAs (said : Result JournalRead ℕ) (counts : Lawful) (kept : Kept) : Type 0 where
  pub read : JournalRead
  pub is : said ≡ Ok read
  pub opens : CanOpen read.live.setup
  pub counted : CountsOf read.journal counts
  pub kept_is : IsKept read.live read.journal kept
