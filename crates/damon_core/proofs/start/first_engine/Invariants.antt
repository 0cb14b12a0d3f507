use Rattle.std.proofs.Common.{◌≡◌}
use Rattle.damon_core.proofs.Setting.{AreSetSoFar}
use Rattle.damon_core.proofs.start.first_engine.Given as goal

abbrev pub invariant-loop-change : goal.invariant-loop-change
invariant-loop-change l = record {
  so_far : AreSetSoFar l.setup.slots.list l.change-index l.engine.slots;
  cap : l.engine.cap ≡ l.setup.cap;
}
