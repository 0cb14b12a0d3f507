use Rattle.std.proofs.Common.{◌≡◌, ◌+◌, ◌≤◌, ◌<◌, ◌++◌, length}
use Rattle.std.specs.Prelude.{All}
use Rattle.damon_types.specs.Space.{pages_of}
use Rattle.line_text.specs.Parts.{parts}
use Rattle.journal_check.specs.Ahead.{seen_ahead}
use Rattle.journal_check.proofs.receipts.read.read_seen_lines.Given as goal

abbrev pub invariant-lines : goal.invariant-lines
invariant-lines l = record {
  exact : l.seen ++ seen_ahead l.space (parts 10 l.rest) ≡ seen_ahead l.space (parts 10 l.lines);
  within : All (λ x. x.1.page < pages_of l.space) l.seen;
  few : length l.seen + length l.rest ≤ length l.lines;
}

abbrev pub decreases-lines : goal.decreases-lines
decreases-lines l = length l.rest
