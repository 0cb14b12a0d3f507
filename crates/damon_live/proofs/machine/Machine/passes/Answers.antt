use Rattle.std.proofs.Common.{ap, sym, ◌∙◌}
use Rattle.damon_live.specs.Machine.{passes_made}
use Rattle.damon_live.proofs.machine.Machine.passes.Goals as goal

pub returns : goal.returns
returns g c = sym c.self.invariant.room.made ∙ ap passes_made c.self.view_is
