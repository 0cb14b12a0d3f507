use Rattle.std.proofs.Common.{◌≡◌, ◌+◌, ◌-◌, ◌≤◌, ap, sym, subst, arith}
use Rattle.damon_types.specs.Space.{pages_of}
use Rattle.damon_core.specs.State.{Core}
use Rattle.damon_world.specs.Stands.{StandsFor}
use Rattle.damon_world.proofs.Notes.{AllFit-touches, pages_touched, stands-touches}
use Rattle.damon_core.proofs.Lemmas.{ReachedByHit-run, reached_of}
use Rattle.damon_world.specs.Touches.{touches}
use Rattle.damon_world.proofs.Hits.{touches_by_hit}
use Rattle.damon_world.proofs.world.World.sweep.Goals as goal

pub returns-clause-events : goal.returns-clause-events
returns-clause-events g c s reached stands =
    let inside = c.self.inside in
    let from = c.args.from in
    let to = c.args.to in
    let n = to - from in
    let pages = pages_of inside.monitor.core.space in
    let inner = subst (λ w. StandsFor w s) (sym c.self.view_is) stands in
    let within : to ≤ pages = subst (λ w. to ≤ pages_of w.monitor.core.space) (sym c.self.view_is) c.requires.within in
    let last : from + n ≡ to = omega (arith, c.requires.order) in
    let same : pages ≡ pages_of s.core.space = ap (λ (x : Core). pages_of x.space) inner.monitor.same in (
      AllFit-touches s from n (omega (arith, last, within, same)),
      record {
        monitor = stands-touches inside.monitor s from n inner.monitor;
        pages = pages_touched s from n pages inside.pages c.sweep.new.self c.self.invariant.each c.sweep.ensures inner.pages;
      },
    )

pub returns-clause-by_hit : goal.returns-clause-by_hit
returns-clause-by_hit g c s reached stands =
    let made = returns-clause-events g c s (reached_of s reached) stands in
    let n = c.args.to - c.args.from in
    (ReachedByHit-run s (touches c.args.from n) reached made.0 (touches_by_hit n c.args.from s), made.1)
