use Rattle.range_update.proofs.OrderLemmas.{past_end, next_after}
use Rattle.range_update.proofs.PieceLemmas.{stays_open}
use Rattle.range_update.proofs.pieces.cut_at_end.Goals as goal

pub covering_row-row-requires-clause-past : goal.covering_row-row-requires-clause-past
covering_row-row-requires-clause-past c = rw c.row_end-page.ensures (past_end c.args.cut.now.rows.now.rows c.args.index c.requires.order c.requires.here)

pub covering_row-row-requires-clause-next : goal.covering_row-row-requires-clause-next
covering_row-row-requires-clause-next c = λ more. rw c.row_end-page.ensures (next_after 0 c.args.cut.now.rows.now.rows c.args.index c.requires.order more)

pub returns-clause-open : goal.returns-clause-open
returns-clause-open c = stays_open c.args.cut.now.rows.now.rows c.args.cut.now.unit c.args.cut.now.end c.row_end-page.result c.covering_row-row.result c.args.current c.cut_at.result c.requires.open c.covering_row-row.ensures c.cut_at.ensures.target c.cut_at.ensures.start c.cut_at.ensures.values
