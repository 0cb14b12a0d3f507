use Rattle.range_update.specs.Order.{EndBy}
use Rattle.range_update.proofs.lookup.skip_rows.Given as goal

abbrev pub invariant-ended : goal.invariant-ended
invariant-ended l = EndBy l.fn.page l.rows.rows l.index
