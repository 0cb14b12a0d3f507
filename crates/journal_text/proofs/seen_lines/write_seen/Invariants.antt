use Rattle.std.proofs.Common.{◌≡◌, ◌-◌, ◌++◌, drop, length, map}
use Rattle.line_text.specs.Appended.{KeepsFront}
use Rattle.script_lines.specs.Lines.{lines_text}
use Rattle.journal_text.specs.Spelled.{spelled_seen}
use Rattle.journal_text.proofs.seen_lines.write_seen.Given as goal

abbrev pub invariant-groups : goal.invariant-groups
invariant-groups l = record {
  text : l.out.items ++ lines_text (map (spelled_seen l.own.space.now l.own.worker) (drop l.at l.own.receipts.now.list)) ≡ l.fn.out.items ++ lines_text (map (spelled_seen l.own.space.now l.own.worker) (drop l.next l.own.receipts.now.list));
  kept : KeepsFront l.fn.out.items l.out.items;
  room : length l.lines ≡ 1408;
}

abbrev pub decreases-groups : goal.decreases-groups
decreases-groups l = length l.own.receipts.now.list - l.at
