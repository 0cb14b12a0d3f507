use Rattle.std.proofs.Common.{◌∙◌, ◌+◌, ◌++◌, ap, drop, map}
use Rattle.script_lines.specs.Spelling.{spelled_target}
use Rattle.script_lines.specs.Lines.{lines_text}
use Rattle.line_text.proofs.Lemmas.{keeps_through}
use Rattle.damon_control.proofs.WrittenLemmas.{line_written}
use Rattle.damon_control.proofs.spelling.write_targets.Goals as goal

pub loop-index-preserved : goal.loop-index-preserved
loop-index-preserved c = record {
  text =
      ap (λ t. t ++ lines_text (map spelled_target (drop (c.loop-index.index + 1) c.args.space.now))) c.in_ok-write_target.ensures.ok
      ∙ line_written spelled_target c.args.space.now c.loop-index.index c.target.result c.loop-index.out.items c.target.ensures
      ∙ c.loop-index.invariant.text;
  kept = keeps_through _ _ _ c.loop-index.invariant.kept c.write_target.ensures.kept;
}
