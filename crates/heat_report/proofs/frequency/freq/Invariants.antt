use Rattle.std.proofs.Common.{drop}
use Rattle.heat_report.proofs.Tenths.{IsTally}
use Rattle.heat_report.proofs.frequency.freq.Given as goal

abbrev pub invariant-loop-index : goal.invariant-loop-index
invariant-loop-index l = IsTally l.aggr l.rows.rows l.index l.out (drop l.index l.rows.rows)
