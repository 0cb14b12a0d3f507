use Rattle.std.proofs.Common.{length, ap, ◌∙◌, arith}
use Rattle.damon_world.specs.Touches.{touches}
use Rattle.reclaim_module.specs.Stands.{after_events}
use Rattle.reclaim_run.specs.Stands.{ReclaimerView}
use Rattle.reclaim_run.proofs.Following.{models_follow}
use Rattle.reclaim_run.proofs.Touching.{touches_are_within}
use Rattle.reclaim_run.proofs.reclaimer.ReclaimerCallbacks.after_touches.Goals as goal

pub touch_pages-requires : goal.touch_pages-requires
touch_pages-requires c i below =
    let may = c.requires in
    let many = ap (λ (v : ReclaimerView). length v.model.out) c.self.view_is in
    omega (arith, touches_are_within c.args.page c.args.count may.1 may.4 i below, may.3.pages, many)

pub returns : goal.returns
returns c memory s reached here fit =
    let es = touches c.args.page c.args.count in
    let made = c.touch_pages.ensures s ∙ ap (λ (v : ReclaimerView). after_events es s v.model) c.self.view_is in
    models_follow es s c.args.self.now.model c.touch_pages.new.model made here fit
