use Rattle.std.proofs.Common.{sym, subst}
use Rattle.damon_core.specs.Event.{IsObserving}
use Rattle.damon_core.specs.State.{row_count}
use Rattle.damon_world.specs.Stands.{WorldView}
use Rattle.damon_world.specs.Kept.{IsAdvance}
use Rattle.damon_world.proofs.Stepping.{observe_advances}
use Rattle.damon_world.proofs.world.World.observe.Goals as goal

pub returns-clause-advance : goal.returns-clause-advance
returns-clause-advance g c =
    let inside = c.self.inside in
    let stream = g.R.Rng.stream in
    let fits = subst (λ w. IsObserving w.monitor.core.phase (row_count w.monitor.core)) (sym c.self.view_is) c.requires.phase in
    let new : WorldView g.row.R.Denot = record { monitor = c.observe.new.self; pages = inside.pages; source = inside.source } in
    subst (λ w. IsAdvance stream w new 1) c.self.view_is
    (observe_advances stream inside.monitor c.observe.new.self inside.pages inside.source fits c.observe.ensures.core c.observe.ensures.cap c.observe.ensures.event)
