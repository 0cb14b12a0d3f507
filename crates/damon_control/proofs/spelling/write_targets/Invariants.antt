use Rattle.std.proofs.Common.{◌≡◌, ◌++◌, drop, map}
use Rattle.line_text.specs.Appended.{KeepsFront}
use Rattle.script_lines.specs.Spelling.{spelled_target}
use Rattle.script_lines.specs.Lines.{lines_text}
use Rattle.damon_control.proofs.spelling.write_targets.Given as goal

abbrev pub invariant-loop-index : goal.invariant-loop-index
invariant-loop-index l = record {
  text : l.out.items ++ lines_text (map spelled_target (drop l.index l.space)) ≡ l.fn.out.items ++ lines_text (map spelled_target l.space);
  kept : KeepsFront l.fn.out.items l.out.items;
}
