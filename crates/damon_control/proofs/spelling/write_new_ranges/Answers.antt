use Rattle.std.proofs.Common.{◌≡◌, ◌++◌, ap, sym, map}
use Rattle.std.proofs.lemmas.Result.{IfOk-equal}
use Rattle.script_lines.specs.Spelling.{spelled_range}
use Rattle.script_lines.specs.Lines.{lines_text}
use Rattle.damon_control.specs.Written.{part_text, ranges_given}
use Rattle.std.specs.Prelude.{option_map}
use Rattle.damon_control.proofs.WrittenLemmas.{range_parts}
use Rattle.damon_control.proofs.spelling.write_new_ranges.Goals as goal

pub returns-in-Some-clause-ok : goal.returns-in-Some-clause-ok
returns-in-Some-clause-ok c =
    let joined : c.args.out.now.items ++ lines_text (map spelled_range c.as_slice.result.now)
    ≡ c.args.out.now.items ++ lines_text (map part_text (ranges_given (option_map (λ l. l.list) c.args.ranges.now))) =
    rw (c.in-Some.is, c.as_slice.ensures) (ap (λ ls. c.args.out.now.items ++ lines_text ls) (sym (range_parts c.in-Some.ranges.list))) in
    IfOk-equal c.write_specs.result _ _ _ c.write_specs.ensures.ok joined
