use Rattle.std.proofs.Common.{◌∙◌, ◌+◌, ◌++◌, ◌∷◌, [], ap, drop, map}
use Rattle.damon_types.specs.declared.range.Range.{Range}
use Rattle.damon_types.specs.declared.range.RangeSpec.{RangeSpec}
use Rattle.script_lines.specs.Spelling.{spelled_range}
use Rattle.script_lines.specs.Lines.{lines_text}
use Rattle.damon_control.specs.Written.{spec_of}
use Rattle.line_text.proofs.Lemmas.{keeps_through}
use Rattle.damon_control.proofs.WrittenLemmas.{line_written}
use Rattle.damon_control.proofs.spelling.write_ranges.Goals as goal

pub loop-index-preserved : goal.loop-index-preserved
loop-index-preserved c =
    let line = λ (g : Range). spelled_range (spec_of c.args.space.now g) in
    record {
      text =
          ap (λ t. t ++ lines_text (map line (drop (c.loop-index.index + 1) c.args.ranges.now.list))) c.in_ok-write_range.ensures.ok
          ∙ ap (λ (s : RangeSpec). (c.loop-index.out.items ++ lines_text (spelled_range s ∷ [])) ++ lines_text (map line (drop (c.loop-index.index + 1) c.args.ranges.now.list))) c.spec_of-spec.ensures
          ∙ line_written line c.args.ranges.now.list c.loop-index.index c.get.result c.loop-index.out.items c.get.ensures
          ∙ c.loop-index.invariant.text;
      kept = keeps_through _ _ _ c.loop-index.invariant.kept c.write_range.ensures.kept;
    }
