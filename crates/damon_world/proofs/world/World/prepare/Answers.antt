use Rattle.std.proofs.Common.{◌≡◌, ap, refl, subst, ◌∙◌}
use Rattle.live_commit.specs.declared.phase.Phase.TheVariants.{Idle}
use Rattle.damon_core.specs.State.{row_count}
use Rattle.sampler.specs.Draws.{drawn}
use Rattle.damon_world.specs.Stands.{WorldView}
use Rattle.damon_world.specs.Kept.{IsAdvance}
use Rattle.damon_world.proofs.Stepping.{prepare_advances}
use Rattle.damon_world.proofs.world.World.prepare.Goals as goal

pub returns-clause-advance : goal.returns-clause-advance
returns-clause-advance g c =
    let inside = c.self.inside in
    let stream = g.R.Rng.stream in
    let made = c.prepare_from.ensures in
    let idle : inside.monitor.core.phase ≡ Idle = ap (λ w. w.monitor.core.phase) c.self.view_is ∙ c.requires in
    let words = drawn (row_count inside.monitor.core) (stream inside.source) in
    let new : WorldView g.row.R.Denot = record { monitor = c.prepare_from.new.self; pages = inside.pages; source = c.prepare_from.new.source } in
    subst (λ w. IsAdvance stream w new 1) c.self.view_is
    (prepare_advances stream inside.monitor c.prepare_from.new.self inside.pages inside.source c.prepare_from.new.source words idle made.each refl made.rest made.core made.event)
