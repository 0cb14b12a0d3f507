use Rattle.std.proofs.Common.{◌≡◌, ◌+◌, length}
use Rattle.line_text.specs.Parts.{parts}
use Rattle.journal_check.specs.LinesLeft.{IsShort, said_left}
use Rattle.journal_text.specs.Place.{AtLast, JournalRead}
use Rattle.journal_text.specs.Reading.{said_from}
use Rattle.journal_check.proofs.ends.compare.Given as goal

abbrev pub invariant-lines : goal.invariant-lines
invariant-lines l = record {
  said : (said : JournalRead) → said_from (l.taken + 1) (AtLast said (parts 10 l.wanted)) (parts 10 l.text) ≡ said_left (AtLast said (parts 10 l.left)) l.lines;
  short : IsShort l.lines;
}

abbrev pub decreases-lines : goal.decreases-lines
decreases-lines l = length l.lines.rest.now
