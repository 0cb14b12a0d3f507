use Rattle.std.proofs.Common.{◌≡◌, ◌+◌, ◌-◌, ◌++◌, take, drop, ap, sym, subst, ◌∙◌, arith}
use Rattle.std.specs.List.{flat_map}
use Rattle.std.proofs.lemmas.List.{length-drop, take_all}
use Rattle.line_text.specs.Appended.{KeepsFront}
use Rattle.line_text.proofs.Lemmas.{keeps-append, keeps_through}
use Rattle.snapshot_print.specs.declared.line_groups.TheConstants.{GROUP_ROOM}
use Rattle.snapshot_print.proofs.Rows.{next_lines}
use Rattle.snapshot_print.proofs.row_groups.print_rows_from.Goals as goal

pub groups-preserved : goal.groups-preserved
groups-preserved g c =
    let line = g.L.LineOf.line c.args.line_of.now in
    let rows = c.args.rows.now.rows in
    let count = c.min-count.result in
    let next = c.groups.next in
    let kept = c.groups.invariant in
    let many : (next + count) - next ≡ count = omega arith in
    let written = c.rows_before-start.ensures.written ∙ ap (λ n. flat_map line (take n (drop next rows))) many in
    let start = c.rows_before-start.result in
    let whole = take_all (GROUP_ROOM - start) (drop start c.rows_before-start.new.lines) (omega (arith, c.rows_before-start.auto.lines, length-drop start c.rows_before-start.new.lines)) in
    let now = c.in_ok-extend_from_slice.ensures.items ∙ ap (λ t. c.groups.out.items ++ t) (whole ∙ written) in
    record {
      within = omega (arith, c.min-count.ensures, c.count-in-groups-2.ensures, kept.within);
      text = next_lines line rows next count c.extend_from_slice.new.self.items c.groups.out.items now ∙ kept.text;
      kept = keeps_through _ _ _ kept.kept (subst (λ t. KeepsFront c.groups.out.items t) (sym now) (keeps-append c.groups.out.items _));
    }
