use Rattle.std.proofs.Common.{◌≡◌, ◌++◌, drop, map}
use Rattle.line_text.specs.Appended.{KeepsFront}
use Rattle.script_lines.specs.Spelling.{spelled_range}
use Rattle.script_lines.specs.Lines.{lines_text}
use Rattle.damon_control.specs.Written.{spec_of}
use Rattle.damon_control.proofs.spelling.write_ranges.Given as goal

abbrev pub invariant-loop-index : goal.invariant-loop-index
invariant-loop-index l = record {
  text : l.out.items ++ lines_text (map (λ g. spelled_range (spec_of l.space g)) (drop l.index l.ranges.list))
      ≡ l.fn.out.items ++ lines_text (map (λ g. spelled_range (spec_of l.space g)) l.ranges.list);
  kept : KeepsFront l.fn.out.items l.out.items;
}
