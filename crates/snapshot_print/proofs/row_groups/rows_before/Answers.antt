use Rattle.std.proofs.Common.{◌≡◌, suc, ◌-◌, ◌++◌, ◌∙◌, drop, take, sym, ap, arith}
use Rattle.std.specs.List.{flat_map}
use Rattle.region_list.specs.Rows.{row_at}
use Rattle.snapshot_print.proofs.Rows.{one_row_more}
use Rattle.snapshot_print.proofs.row_groups.rows_before.Goals as goal

pub rows-preserved : goal.rows-preserved
rows-preserved g c =
    let line = g.L.LineOf.line c.args.line_of.now in
    let rows = c.args.rows.now.rows in
    let to = c.args.indexes.end in
    let i = c.rows.index - 1 in
    let kept = c.rows.invariant in
    let now = row_at rows i in
    let here : suc i ≡ c.rows.index = omega (arith, c.rows-test.true) in
    let written = c.line_before-start.ensures.written ∙ ap (λ t. line c.at.result ++ t) kept.text in
    let first = ap (flat_map line) (one_row_more rows i to (omega (arith, kept.to, here)) c.requires.within) in
    let rest = ap (λ n. line now ++ flat_map line (take (to - n) (drop n rows))) here in
    record {
      from = omega (arith, kept.from, c.rows-test.true);
      to = omega (arith, kept.to);
      room = omega (arith, kept.room, kept.to, here, c.line_before-start.auto.bytes, c.line_before-start.ensures.most);
      start = omega (arith, kept.start, c.line_before-start.auto.bytes, c.line_before-start.ensures.start);
      text = written ∙ ap (λ r. line r ++ flat_map line (take (to - c.rows.index) (drop c.rows.index rows))) c.at.ensures ∙ sym (first ∙ rest);
    }
