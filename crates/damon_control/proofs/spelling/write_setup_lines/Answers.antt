use Rattle.std.proofs.Common.{◌≡◌, ◌∙◌, ◌++◌, map, ap, List}
use Rattle.std.proofs.lemmas.Result.{IfOk-equal}
use Rattle.damon_types.specs.declared.scheme.SlotChange.{SlotChange}
use Rattle.live_commit.specs.SetupView.{value_of}
use Rattle.script_lines.specs.Spelling.{spelled_range, spelled_target}
use Rattle.script_lines.specs.Lines.{lines_text}
use Rattle.script_lines.specs.WrittenLine.{change_text}
use Rattle.damon_control.specs.Written.{number_lines, setup_text, spec_of}
use Rattle.script_lines.proofs.Lemmas.{lines_added}
use Rattle.damon_control.proofs.spelling.write_setup_lines.Goals as goal

pub returns-clause-ok : goal.returns-clause-ok
returns-clause-ok c =
    let s = value_of c.args.setup.now in
    let numbers = number_lines c.args.seed s.unit s.cap s.attrs in
    let targets = map spelled_target s.space in
    let ranges = map (λ g. spelled_range (spec_of s.space g)) s.ranges in
    let changes = map change_text s.slots in
    let joined : c.write_ranges.new.out.items ++ lines_text (map change_text c.as_slice.result.now) ≡ c.args.out.now.items ++ setup_text c.args.seed s =
    ap (λ (cs : List SlotChange). c.write_ranges.new.out.items ++ lines_text (map change_text cs)) c.as_slice.ensures
    ∙ lines_added _ _ ranges changes c.in_ok-write_ranges.ensures.ok
    ∙ lines_added _ _ targets (ranges ++ changes) c.in_ok-write_targets.ensures.ok
    ∙ lines_added _ _ numbers (targets ++ (ranges ++ changes)) c.in_ok-write_numbers.ensures.ok
    in
    IfOk-equal c.write_changes.result _ _ _ c.write_changes.ensures.ok joined
