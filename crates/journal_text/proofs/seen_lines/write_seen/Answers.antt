use Rattle.std.proofs.Common.{◌∙◌, ◌-◌, ◌++◌, drop, sym, ap, subst, arith}
use Rattle.std.proofs.lemmas.List.{length-drop, take_all}
use Rattle.line_text.specs.Appended.{KeepsFront}
use Rattle.journal_text.specs.Spelled.{spelled_seen}
use Rattle.line_text.proofs.Lemmas.{keeps-append, keeps_through}
use Rattle.journal_text.proofs.SeenGroups.{group_passed}
use Rattle.journal_text.proofs.seen_lines.write_seen.Goals as goal

pub groups-preserved : goal.groups-preserved
groups-preserved c =
    let i = c.groups.invariant in
    let line = spelled_seen c.args.own.now.space.now c.args.own.now.worker in
    let wrote = c.group_before-start.ensures in
    let appended = c.in_ok-extend_from_slice.ensures.items in
    let start = c.group_before-start.result in
    let bytes = c.group_before-start.new.lines in
    let lines = take_all (1408 - start) (drop start bytes) (omega (arith, length-drop start bytes, wrote.len, i.room)) in
    record {
      text = group_passed line c.args.own.now.receipts.now.list c.groups.at c.min-count.result c.groups.out.items c.extend_from_slice.new.self.items _ (appended ∙ ap (λ t. c.groups.out.items ++ t) (lines ∙ wrote.written)) i.text;
      kept = keeps_through c.args.out.now.items c.groups.out.items c.extend_from_slice.new.self.items i.kept (subst (KeepsFront c.groups.out.items) (sym appended) (keeps-append c.groups.out.items _));
      room = omega (arith, wrote.len, i.room);
    }
