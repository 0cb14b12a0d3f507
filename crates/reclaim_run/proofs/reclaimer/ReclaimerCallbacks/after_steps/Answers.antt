use Rattle.std.proofs.Common.{sym}
use Rattle.reclaim_module.proofs.Lemmas.{events_leave}
use Rattle.reclaim_run.proofs.Following.{models_follow, steps_leave}
use Rattle.reclaim_run.proofs.reclaimer.ReclaimerCallbacks.after_steps.Goals as goal

pub returns : goal.returns
returns c steps all memory s reached here fit =
    let m = c.args.self.now.model in
    models_follow steps s m m (sym (events_leave steps s m (steps_leave steps all))) here fit
