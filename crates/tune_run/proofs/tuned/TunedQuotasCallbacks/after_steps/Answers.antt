use Rattle.std.proofs.Common.{sym, ◌∙◌}
use Rattle.tune_run.proofs.Staying.{steps_stay}
use Rattle.tune_run.proofs.tuned.TunedQuotasCallbacks.after_steps.Goals as goal

pub returns : goal.returns
returns g c steps each memory s reached stands fit = record { is = stands.is ∙ sym (steps_stay g.N.Named.goals memory s steps each); free = tt }
