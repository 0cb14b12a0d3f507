use Rattle.std.proofs.Common.{arith}
use Rattle.reclaim_run.proofs.Applying.{some_page}
use Rattle.reclaim_run.proofs.reclaimer.share_out.Goals as goal

pub nonzero_div-result : goal.nonzero_div-result
nonzero_div-result c = omega (arith, some_page c.args.space.now c.targets-targets.ensures.sound, c.pages.ensures, c.from-2.ensures)
