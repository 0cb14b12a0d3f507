use Rattle.std.proofs.Common.{[], ◌∷◌, ap}
use Rattle.damon_core.specs.Event.{commit}
use Rattle.live_commit.specs.Commit.{commit_value}
use Rattle.reclaim_run.specs.Stands.{ReclaimerView}
use Rattle.reclaim_run.proofs.Following.{models_follow}
use Rattle.reclaim_run.proofs.reclaimer.ReclaimerCallbacks.after_commit.Goals as goal

pub returns-clause-stands : goal.returns-clause-stands
returns-clause-stands c memory s is =
    let same = ap (λ (v : ReclaimerView). v.model) c.self.view_is in
    models_follow (commit (commit_value c.args._commit.now) ∷ []) s c.args.self.now.model c.self.inside.model same is.stood (tt, tt)
