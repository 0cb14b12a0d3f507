use Rattle.std.proofs.Common.{arith}
use Rattle.range_update.proofs.OrderLemmas.{past_more}
use Rattle.range_update.proofs.lookup.skip_rows.Goals as goal

pub ended-preserved : goal.ended-preserved
ended-preserved c = past_more c.args.page c.args.rows.now.rows c.ended.index c.ended.invariant (omega arith)
