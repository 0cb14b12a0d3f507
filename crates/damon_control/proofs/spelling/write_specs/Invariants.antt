use Rattle.std.proofs.Common.{◌≡◌, ◌++◌, drop, map}
use Rattle.line_text.specs.Appended.{KeepsFront}
use Rattle.script_lines.specs.Spelling.{spelled_range}
use Rattle.script_lines.specs.Lines.{lines_text}
use Rattle.damon_control.proofs.spelling.write_specs.Given as goal

abbrev pub invariant-loop-spec : goal.invariant-loop-spec
invariant-loop-spec l = record {
  text : l.out.items ++ lines_text (map spelled_range (drop l.spec-index l.specs)) ≡ l.fn.out.items ++ lines_text (map spelled_range l.specs);
  kept : KeepsFront l.fn.out.items l.out.items;
}
