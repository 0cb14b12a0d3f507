use Rattle.std.proofs.Common.{◌<◌, ◌-◌, ◌∙◌, arith}
use Rattle.reclaim_run.proofs.Touching.{run_is_touches}
use Rattle.reclaim_run.proofs.reclaimer.touch_pages.Goals as goal

pub touch_run-requires : goal.touch_run-requires
touch_run-requires c =
    let last : c.args.count - 1 < c.args.count = omega (arith, c.if-count-gt0.true) in
    omega (arith, c.requires (c.args.count - 1) last, c.if-count-gt0.true)

pub returns-then-count-gt0 : goal.returns-then-count-gt0
returns-then-count-gt0 c s = c.touch_run.ensures ∙ run_is_touches c.args.page c.args.count s c.args.model.now c.requires
