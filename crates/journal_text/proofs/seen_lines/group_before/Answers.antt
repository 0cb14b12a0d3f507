use Rattle.std.proofs.Common.{◌∙◌, ◌++◌, ◌∷◌, [], ap, arith}
use Rattle.script_lines.specs.Lines.{lines_text}
use Rattle.journal_text.specs.Spelled.{spelled_seen}
use Rattle.journal_text.proofs.SeenGroups.{group_more}
use Rattle.journal_text.proofs.seen_lines.group_before.Goals as goal

pub lines-preserved : goal.lines-preserved
lines-preserved c =
    let i = c.lines.invariant in
    let line = spelled_seen c.args.own.now.space.now c.args.own.now.worker in
    let wrote = c.seen_before-start.ensures in
    let len = c.seen_before-start.auto.line in
    record {
      written =
          wrote.written
          ∙ ap (λ t. lines_text (line c.get.result ∷ []) ++ t) i.written
          ∙ group_more line c.args.own.now.receipts.now.list c.get.result c.args.from c.lines.left c.args.count (omega (arith, c.lines-test.true)) i.most c.get.ensures;
      room = omega (arith, c.lines-test.true, i.room, wrote.most);
      within = omega (arith, wrote.start, i.within, len);
      len = omega (arith, i.len, len);
      most = omega (arith, i.most);
    }
