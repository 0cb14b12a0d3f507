use Rattle.std.proofs.Common.{◌≡◌, ◌<◌, ap, sym, subst, arith}
use Rattle.damon_types.specs.Space.{pages_of}
use Rattle.damon_core.specs.State.{Core}
use Rattle.damon_world.specs.Stands.{StandsFor}
use Rattle.damon_world.proofs.Notes.{AllFit-touches, pages_touched, stands-touches}
use Rattle.std.proofs.Common.{[], ◌∷◌}
use Rattle.damon_core.specs.Event.{touch}
use Rattle.damon_core.proofs.Lemmas.{ReachedByHit-run, reached_of}
use Rattle.damon_world.proofs.world.World.touch_page.Goals as goal

pub returns-clause-event : goal.returns-clause-event
returns-clause-event g c s reached stands =
    let inside = c.self.inside in
    let page = c.args.page in
    let pages = pages_of inside.monitor.core.space in
    let inner = subst (λ w. StandsFor w s) (sym c.self.view_is) stands in
    let within : page < pages = subst (λ w. page < pages_of w.monitor.core.space) (sym c.self.view_is) c.requires in
    let same : pages ≡ pages_of s.core.space = ap (λ (x : Core). pages_of x.space) inner.monitor.same in (
      AllFit-touches s page 1 (omega (arith, within, same)),
      record {
        monitor = stands-touches inside.monitor s page 1 inner.monitor;
        pages = pages_touched s page 1 pages inside.pages c.touch.new.self c.self.invariant.each c.touch.ensures inner.pages;
      },
    )

pub returns-clause-by_hit : goal.returns-clause-by_hit
returns-clause-by_hit g c s reached stands =
    let made = returns-clause-event g c s (reached_of s reached) stands in
    (ReachedByHit-run s (touch c.args.page ∷ []) reached made.0 (tt, tt), made.1)
