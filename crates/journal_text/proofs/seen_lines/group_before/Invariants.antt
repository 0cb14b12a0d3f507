use Rattle.std.proofs.Common.{◌≡◌, ◌-◌, ◌+◌, ◌*◌, ◌≤◌, drop, take, length, map}
use Rattle.script_lines.specs.Lines.{lines_text}
use Rattle.journal_text.specs.Spelled.{spelled_seen}
use Rattle.journal_text.proofs.seen_lines.group_before.Given as goal

abbrev pub invariant-lines : goal.invariant-lines
invariant-lines l = record {
  written : drop l.start l.lines ≡ lines_text (map (spelled_seen l.own.space.now l.own.worker) (take (l.count - l.left) (drop (l.from + l.left) l.own.receipts.now.list)));
  room : 87 * l.left ≤ l.start;
  within : l.start ≤ length l.lines;
  len : length l.lines ≡ length l.fn.lines;
  most : l.left ≤ l.count;
}

abbrev pub decreases-lines : goal.decreases-lines
decreases-lines l = l.left
