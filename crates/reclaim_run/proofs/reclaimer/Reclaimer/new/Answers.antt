use Rattle.reclaim_run.proofs.Following.{new_models}
use Rattle.reclaim_run.proofs.reclaimer.Reclaimer.new.Goals as goal

pub returns : goal.returns
returns c = record { opening = λ v space. new_models c.args.pages c.in_ok-model.model v c.in_ok-model.ensures space }
