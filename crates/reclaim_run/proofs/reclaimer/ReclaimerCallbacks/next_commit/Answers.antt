use Rattle.std.proofs.Common.{[], ◌∷◌, ap}
use Rattle.damon_core.specs.Event.{commit}
use Rattle.reclaim_run.specs.Reclaimed.{metric_commit}
use Rattle.reclaim_run.specs.Stands.{ReclaimerView}
use Rattle.reclaim_run.proofs.Following.{models_follow}
use Rattle.reclaim_run.proofs.reclaimer.ReclaimerCallbacks.next_commit.Goals as goal

pub returns-clause-stands : goal.returns-clause-stands
returns-clause-stands c memory s reached here fit =
    let same = ap (λ (v : ReclaimerView). v.model) c.self.view_is in
    models_follow (commit (metric_commit c.in_ok-share.share) ∷ []) s c.args.self.now.model c.self.inside.model same here (tt, tt)
