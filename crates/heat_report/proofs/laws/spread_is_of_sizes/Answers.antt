use Rattle.heat_report.proofs.Medians.{spread_is}
use Rattle.heat_report.proofs.laws.spread_is_of_sizes.Goals as goal

pub returns : goal.returns
returns c = record { spread = spread_is }
