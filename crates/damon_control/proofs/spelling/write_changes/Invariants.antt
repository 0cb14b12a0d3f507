use Rattle.std.proofs.Common.{◌≡◌, ◌++◌, drop, map}
use Rattle.line_text.specs.Appended.{KeepsFront}
use Rattle.script_lines.specs.Lines.{lines_text}
use Rattle.script_lines.specs.WrittenLine.{change_text}
use Rattle.damon_control.proofs.spelling.write_changes.Given as goal

abbrev pub invariant-loop-change : goal.invariant-loop-change
invariant-loop-change l = record {
  text : l.out.items ++ lines_text (map change_text (drop l.change-index l.changes)) ≡ l.fn.out.items ++ lines_text (map change_text l.changes);
  kept : KeepsFront l.fn.out.items l.out.items;
}
