-- The receipts of a journal text, taken line by line.
use Rattle.std.specs.Prelude.{◌≡◌, ℕ, zero, suc, List, [], ◌∷◌, ◌++◌, if◌then◌else◌}
use Rattle.page_words.specs.declared.view.Entry.{Entry as Step}
use Rattle.damon_control.specs.Live.{LiveValue}
use Rattle.run_journal.specs.declared.entry.Receipt.{Receipt}
use Rattle.journal_check.specs.declared.journal_lines.JournalLines.{JournalLines}
use Rattle.journal_check.specs.Ahead.{AheadView, named_by, receipts_of, seen_ahead}
use Rattle.journal_check.specs.Folding.{open_hits}
use Rattle.run_journal.specs.Lawful.{all_of}
use Rattle.journal_check.specs.LinesLeft.{lines_left, said_left}
use Rattle.journal_text.specs.Place.{AtLast, InReceipts, JournalPlace}
use Rattle.run_journal.specs.Replay.{JournalValue, replay}
use Rattle.journal_text.specs.SeenLine.{may_be_seen, with_receipt}
use Rattle.run_journal.specs.Steps.{steps}
use Rattle.journal_text.specs.Text.{last_text}
use Rattle.line_text.specs.Parts.{parts}

-- The receipts that were read ahead are those of the lines that are left; it is known which of them name a pass that cleared their
-- page, and how many hits have no receipt.
pub record ReceiptsStand (v : LiveValue) (j : JournalValue) (ahead : AheadView) (unreceived : ℕ) (lines : JournalLines) : Type 0 where
  pub next : ahead.receipts ≡ seen_ahead v.setup.space (lines_left lines)
  pub named : ahead.named ≡ named_by (steps v j) ahead.receipts
  pub open_is : unreceived ≡ open_hits (receipts_of ahead.receipts) (steps v j)

-- how many receipts come before the first that may not be seen
abbrev pub accepted : List Step → List (List Receipt) → List (ℕ × Receipt) → ℕ
accepted done all [] = zero
accepted done all (x ∷ xs) = if may_be_seen done all x.0 x.1 then suc (accepted done (with_receipt all x.0 x.1) xs) else zero

-- the receipts of the lines that are left
abbrev pub seen_left : LiveValue → JournalLines → List (ℕ × Receipt)
seen_left v lines = seen_ahead v.setup.space (lines_left lines)

-- Lines of receipts were taken, which make these receipts of each worker, and `left` of the others may still be seen.
pub record AreSeen (left : ℕ) (v : LiveValue) (j : JournalValue) (all : List (List Receipt)) (old new : JournalLines) : Type 0 where
  pub said : said_left (InReceipts v j []) old ≡ said_left (InReceipts v j all) new
  pub few : accepted (steps v j) all (seen_left v new) ≡ left
  pub whole : all_of all ++ receipts_of (seen_left v new) ≡ receipts_of (seen_left v old)

-- these are all receipts that may be seen, and of the hits it is known how many have none, of these receipts and those that are left
pub record AreAllSeen (v : LiveValue) (j : JournalValue) (all : List (List Receipt)) (unreceived : ℕ) (lines : JournalLines) : Type 0 where
  pub none : accepted (steps v j) all (seen_left v lines) ≡ 0
  pub open_is : unreceived ≡ open_hits (all_of all ++ receipts_of (seen_left v lines)) (steps v j)

-- the place after the receipts
abbrev pub after_all_receipts : LiveValue → JournalValue → List (List Receipt) → JournalPlace
after_all_receipts v j all = AtLast (record { live = v; journal = j; receipts = all }) (parts 10 (last_text (replay v j).state))
