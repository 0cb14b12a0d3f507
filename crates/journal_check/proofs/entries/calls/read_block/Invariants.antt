use Rattle.std.proofs.Common.{◌≡◌, ◌≤◌, ℕ, IfSome, length}
use Rattle.live_commit.specs.Commit.{commit_value}
use Rattle.script_lines.specs.Body.{no_commit}
use Rattle.damon_control.specs.Live.{LiveValue}
use Rattle.journal_check.specs.Ahead.{after_receipts}
use Rattle.journal_check.specs.LinesLeft.{IsShort, lines_left, said_left}
use Rattle.journal_text.specs.Place.{InBlock}
use Rattle.run_journal.specs.Replay.{JournalValue}
use Rattle.journal_check.proofs.entries.calls.read_block.Given as goal

abbrev pub invariant-lines : goal.invariant-lines
invariant-lines l = record {
  said : (v : LiveValue) (j : JournalValue) (c : ℕ) → v.setup.version ≡ l.version → said_left (InBlock v j c no_commit) l.fn.lines ≡ said_left (InBlock v j c (commit_value l.commit)) l.lines;
  ahead : after_receipts (lines_left l.fn.lines) ≡ after_receipts (lines_left l.lines);
  few : IfSome (commit_value l.commit).ranges (λ rs. length rs ≤ l.lines.taken);
  later : l.fn.lines.taken ≤ l.lines.taken;
  shorter : length l.lines.rest.now ≤ length l.fn.lines.rest.now;
  short : IsShort l.lines;
}

abbrev pub decreases-lines : goal.decreases-lines
decreases-lines l = length l.lines.rest.now
