use Rattle.tune_run.proofs.Staying.{touches_stand}
use Rattle.tune_run.proofs.tuned.TunedQuotasCallbacks.after_touches.Goals as goal

pub returns : goal.returns
returns g c memory s reached stands fit = touches_stand g.N.Named.goals memory c.args.self.now.tuner c.args.self.now.moment s c.args._page c.args._count stands
