use Rattle.std.proofs.Common.{◌≡◌, ◌*◌, length, ap, subst, ◌∙◌}
use Rattle.damon_types.specs.declared.attrs.Attrs.{Attrs}
use Rattle.live_commit.specs.declared.phase.Phase.TheVariants.{Due}
use Rattle.sampler.specs.Draws.{drawn, drawn_rest}
use Rattle.damon_world.specs.Stands.{WorldView}
use Rattle.damon_world.specs.Kept.{IsAdvance}
use Rattle.damon_world.proofs.Stepping.{aggregate_advances}
use Rattle.damon_world.proofs.world.World.aggregate.Goals as goal

pub aggregate-requires-clause-words : goal.aggregate-requires-clause-words
aggregate-requires-clause-words g c =
    ap length c.deref.ensures.value ∙ c.draw_all.ensures.len
    ∙ ap (λ (a : Attrs). 2 * a.max) c.attrs-attrs.ensures.attrs

pub returns-clause-advance : goal.returns-clause-advance
returns-clause-advance g c =
    let inside = c.self.inside in
    let stream = g.R.Rng.stream in
    let most : 2 * c.attrs-attrs.result.max ≡ 2 * inside.monitor.core.attrs.max = ap (λ (a : Attrs). 2 * a.max) c.attrs-attrs.ensures.attrs in
    let due : inside.monitor.core.phase ≡ Due = ap (λ w. w.monitor.core.phase) c.self.view_is ∙ c.requires in
    let drew : c.deref.result.now ≡ drawn (2 * inside.monitor.core.attrs.max) (stream inside.source) = c.deref.ensures.value ∙ c.draw_all.ensures.words ∙ ap (λ n. drawn n (stream inside.source)) most in
    let len : length c.deref.result.now ≡ 2 * inside.monitor.core.attrs.max = ap length c.deref.ensures.value ∙ c.draw_all.ensures.len ∙ most in
    let rest = c.draw_all.ensures.rest ∙ ap (λ n. drawn_rest n (stream inside.source)) most in
    let new : WorldView g.row.R.Denot = record { monitor = c.aggregate.new.self; pages = inside.pages; source = c.draw_all.new.source } in
    subst (λ w. IsAdvance stream w new 1) c.self.view_is
    (aggregate_advances stream inside.monitor c.aggregate.new.self inside.pages inside.source c.draw_all.new.source c.deref.result.now due len drew rest c.aggregate.ensures.core c.aggregate.ensures.event)
