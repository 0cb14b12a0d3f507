use Rattle.std.proofs.Common.{sym, ap, ◌∙◌}
use Rattle.damon_admin.specs.Stage.{completes}
use Rattle.damon_admin.proofs.Playing.{may_play, runs_as}
use Rattle.damon_admin.proofs.context.run.Goals as goal

pub play-requires : goal.play-requires
play-requires c whole =
    let r = c.requires.next in
    may_play r.0 r.1 c.args.line.now c.args.player.now c.args.stage.now r.2 r.3
    (sym (c.completes.ensures ∙ ap (completes c.args.stage.now) c.stage_after-after.ensures) ∙ whole)

pub returns : goal.returns
returns c own done next running =
    runs_as own done c.args.line.now c.args.player.now c.args.stage.now next running c.completes.result c.stage_after-after.result c.args.out.now.items
    (c.completes.ensures ∙ ap (completes c.args.stage.now) c.stage_after-after.ensures) c.stage_after-after.ensures c.requires.empty
    c.play.new.player c.play.new.out.items c.in_ok-play.ensures
