use Rattle.std.proofs.Common.{◌≡◌, length}
use Rattle.damon_control.specs.Live.{LiveValue}
use Rattle.journal_check.specs.CallLine.{ReadsOn}
use Rattle.journal_check.specs.Folding.{AreAhead, FoldStands, IsWithin}
use Rattle.journal_check.specs.LinesLeft.{IsShort, said_left}
use Rattle.journal_text.specs.Place.{InEntries}
use Rattle.run_journal.specs.Replay.{JournalValue}
use Rattle.journal_check.proofs.verifying.take_entries.Given as goal

-- the entries so far are carried out
abbrev pub invariant-entries : goal.invariant-entries
invariant-entries l = record {
  short : IsShort l.lines;
  ahead : AreAhead l.fold l.lines;
  within : IsWithin l.fold l.lines.taken;
  keeping : l.fold.kept.keeping ≡ l.fn.fold.kept.keeping;
  reads : (v : LiveValue) (j : JournalValue) → FoldStands v j l.fn.fold → ReadsOn (said_left (InEntries v j) l.fn.lines) l.lines l.fold;
}

abbrev pub decreases-entries : goal.decreases-entries
decreases-entries l = length l.lines.rest.now
