use Rattle.std.proofs.Common.{◌≡◌, ◌+◌, ◌-◌, ◌≤◌, ◌<◌, length, ap, sym, subst, ◌∙◌, arith}
use Rattle.region_list.specs.Regions.{RegionList}
use Rattle.damon_types.specs.Space.{pages_of}
use Rattle.live_commit.specs.declared.phase.Phase.TheVariants.{Clearing}
use Rattle.damon_core.specs.State.{Core, row_count}
use Rattle.damon_world.specs.Stands.{WorldView}
use Rattle.damon_world.specs.Kept.{IsAdvance}
use Rattle.damon_world.specs.Pages.{AreCleared}
use Rattle.damon_world.proofs.Advancing.{clears_advance}
use Rattle.damon_world.proofs.world.World.clear_picks.Goals as goal

pub invariant_of-self : goal.invariant_of-self
invariant_of-self g c =
    let shown = c.cleared_next.ensures.core in
    record {
      each = c.clear_pages.ensures.len ∙ c.self.invariant.each ∙ ap (λ (x : Core). pages_of x.space) (sym shown);
      room = omega (arith, c.self.invariant.room, ap (λ (x : Core). x.regions.cap) shown);
    }

pub returns-clause-advance : goal.returns-clause-advance
returns-clause-advance g c =
    let inside = c.self.inside in
    let m = inside.monitor in
    let stream = g.R.Rng.stream in
    let k = c.args.next in
    let n = c.at_most-count.result in
    let after = c.clear_pages.new.pages in
    let rows : c.len.result ≡ row_count m.core = c.len.ensures.len ∙ ap (λ (r : RegionList). length r.rows) c.rows.ensures.rows in
    let clearing : m.core.phase ≡ Clearing k = ap (λ w. w.monitor.core.phase) c.self.view_is ∙ c.requires.phase in
    let below : k < row_count m.core = subst (λ w. k < row_count w.monitor.core) (sym c.self.view_is) c.requires.within in
    let within : k + n ≤ row_count m.core = omega (arith, c.at_most-count.ensures, rows, below) in
    let count : k + n - k ≡ n = omega arith in
    let cleared : AreCleared m.core.picks k n (m.core.ticks + 1) inside.pages after = subst (λ j. AreCleared m.core.picks k j (m.core.ticks + 1) inside.pages after) count c.clear_pages.ensures in
    let made = clears_advance stream m c.cleared_next.new.self inside.pages after inside.source k n clearing below within c.cleared_next.ensures.core c.cleared_next.ensures.events c.self.invariant.each cleared in
    let old : WorldView g.row.R.Denot = record { monitor = m; pages = inside.pages; source = inside.source } in
    let new : WorldView g.row.R.Denot = record { monitor = c.cleared_next.new.self; pages = after; source = inside.source } in
    subst (λ x. IsAdvance stream x new c.from.result) c.self.view_is
    (subst (λ j. IsAdvance stream old new j) (sym c.from.ensures) made)
