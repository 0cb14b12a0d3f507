use Rattle.std.proofs.Common.{arith}
use Rattle.range_update.proofs.OrderLemmas.{order_at}
use Rattle.range_update.proofs.lookup.row_end.Goals as goal

pub overflow_add-result : goal.overflow_add-result
overflow_add-result c = rw c.at-row.ensures (omega (arith, (order_at 0 c.args.rows.now.rows c.args.index c.requires.order c.requires.here).small))
