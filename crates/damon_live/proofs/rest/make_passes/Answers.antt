use Rattle.run_journal.specs.Phases.{passes_open}
use Rattle.std.proofs.Common.{ap}
use Rattle.damon_live.proofs.rest.make_passes.Goals as goal

pub check-requires-clause-begun : goal.check-requires-clause-begun
check-requires-clause-begun g c = ap passes_open c.arm.ensures.armed
