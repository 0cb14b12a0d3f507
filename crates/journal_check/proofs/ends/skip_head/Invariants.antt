use Rattle.std.proofs.Common.{◌≤◌, ℕ, List, length}
use Rattle.journal_check.specs.EndsOfText.{AreTaken}
use Rattle.journal_check.specs.LinesLeft.{IsShort}
use Rattle.journal_check.proofs.ends.skip_head.Given as goal

abbrev pub invariant-lines : goal.invariant-lines
invariant-lines l = record {
  taken : (front : List (List ℕ)) × AreTaken front l.fn.lines l.lines;
  short : IsShort l.lines;
  shorter : length l.lines.rest.now ≤ length l.fn.lines.rest.now;
}

abbrev pub decreases-lines : goal.decreases-lines
decreases-lines l = length l.lines.rest.now
