use Rattle.std.proofs.Common.{◌≡◌, ◌≤◌, ℕ, true, IfSome, length}
use Rattle.live_commit.specs.Commit.{commit_value}
use Rattle.script_lines.specs.Body.{wants_slot}
use Rattle.damon_control.specs.Live.{LiveValue}
use Rattle.journal_check.specs.Ahead.{after_receipts}
use Rattle.journal_check.specs.LinesLeft.{IsShort, lines_left, said_left}
use Rattle.journal_text.specs.Place.{InBlock}
use Rattle.run_journal.specs.Replay.{JournalValue}
use Rattle.journal_check.proofs.entries.calls.take_ranges.Given as goal

abbrev pub invariant-lines : goal.invariant-lines
invariant-lines l = record {
  wanted : wants_slot (commit_value l.commit) ≡ true;
  said : (v : LiveValue) (j : JournalValue) (c : ℕ) → said_left (InBlock v j c (commit_value l.fn.commit)) l.fn.lines ≡ said_left (InBlock v j c (commit_value l.commit)) l.lines;
  ahead : after_receipts (lines_left l.fn.lines) ≡ after_receipts (lines_left l.lines);
  few : IfSome (commit_value l.commit).ranges (λ rs. length rs ≤ l.lines.taken);
  later : l.fn.lines.taken ≤ l.lines.taken;
  shorter : length l.lines.rest.now ≤ length l.fn.lines.rest.now;
  short : IsShort l.lines;
}

abbrev pub decreases-lines : goal.decreases-lines
decreases-lines l = length l.lines.rest.now
