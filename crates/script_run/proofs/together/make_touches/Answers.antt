use Rattle.std.proofs.Common.{◌≡◌, ◌+◌, ◌-◌, subst, arith}
use Rattle.damon_core.specs.Reached.{AllFit, run}
use Rattle.damon_world.specs.Stands.{StandsFor}
use Rattle.damon_world.specs.Touches.{touches}
use Rattle.script_run.proofs.together.make_touches.Goals as goal

pub returns-else-count-eq1-clause-events : goal.returns-else-count-eq1-clause-events
returns-else-count-eq1-clause-events g c s reached stands =
    let pages : c.args.page + c.args.count - c.args.page ≡ c.args.count = omega arith in
    subst (λ n. AllFit s (touches c.args.page n) × StandsFor {R = g.row.R.Denot} c.sweep.new.self (run s (touches c.args.page n)))
    pages (c.sweep.ensures.events s reached stands)
