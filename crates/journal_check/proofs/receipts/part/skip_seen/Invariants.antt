use Rattle.std.proofs.Common.{◌≡◌, [], List}
use Rattle.damon_control.specs.Live.{LiveValue}
use Rattle.run_journal.specs.declared.entry.Receipt.{Receipt}
use Rattle.journal_check.specs.LinesLeft.{IsShort}
use Rattle.run_journal.specs.Replay.{JournalValue}
use Rattle.journal_check.specs.SeenPart.{AreSeen, accepted, seen_left}
use Rattle.run_journal.specs.Steps.{steps}
use Rattle.journal_check.proofs.receipts.part.skip_seen.Given as goal

abbrev pub invariant-seen : goal.invariant-seen
invariant-seen l = record {
  seen : (v : LiveValue) (j : JournalValue) → l.count ≡ accepted (steps v j) [] (seen_left v l.fn.lines) → (all : List (List Receipt)) × AreSeen l.left v j all l.fn.lines l.lines;
  short : IsShort l.lines;
}

abbrev pub decreases-seen : goal.decreases-seen
decreases-seen l = l.left
