use Rattle.std.proofs.Common.{length, arith}
use Rattle.std.proofs.lemmas.Bool.Decides.{nat_tests}
use Rattle.heat_report.specs.Text.{heat_line, heat_lines}
use Rattle.heat_report.proofs.Texts.{lines_step}
use Rattle.line_text.proofs.Lemmas.{keeps_through}
use Rattle.heat_report.proofs.text.append_heat_lines.Goals as goal

pub loop-target-preserved : goal.loop-target-preserved
loop-target-preserved g c =
    let line = heat_line g.row.N c.args.tick c.args.rows.now.rows c.args.space.now in
    let whole = heat_lines g.row.N c.args.tick c.args.rows.now.rows c.args.space.now in
    record {
      text = lines_step line c.args.out.now.items c.loop-target.out.items c.append_heat_line.new.out.items whole c.loop-target.target (length c.args.space.now) (grind (arith, nat_tests, c.loop-target-test.true, c.targets-target-end.ensures.count)) c.in_ok-append_heat_line.ensures.ok c.loop-target.invariant.text;
      kept = keeps_through c.args.out.now.items c.loop-target.out.items c.append_heat_line.new.out.items c.loop-target.invariant.kept c.append_heat_line.ensures.kept;
    }
