use Rattle.std.proofs.Common.{Some, sym}
use Rattle.region_list.specs.Rows.{row_at}
use Rattle.range_update.proofs.PieceLemmas.{covering_start, stays_open}
use Rattle.range_update.proofs.pieces.cut_at_start.Goals as goal

pub returns-clause-open : goal.returns-clause-open
returns-clause-open c =
    let r = row_at c.args.cut.now.rows.now.rows c.args.index in
    stays_open c.args.cut.now.rows.now.rows c.args.cut.now.unit c.args.cut.now.end r.start (Some r) c.args.current c.cut_at.result c.requires.open (sym (covering_start c.args.cut.now.rows.now.rows c.args.index c.requires.order c.requires.here)) c.cut_at.ensures.target (rw (sym c.at-row.ensures) c.cut_at.ensures.start) (rw (sym c.at-row.ensures) c.cut_at.ensures.values)
