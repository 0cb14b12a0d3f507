use Rattle.region_list.proofs.ClosestLemmas.{Walk}
use Rattle.region_list.proofs.shrink.closest.Given as goal

abbrev pub invariant-rows : goal.invariant-rows
invariant-rows l = Walk l.ranges.list l.fn.rows.rows l.range l.index l.end l.best
