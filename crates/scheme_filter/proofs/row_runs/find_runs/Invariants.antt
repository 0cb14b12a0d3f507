use Rattle.std.proofs.Common.{◌-◌}
use Rattle.scheme_filter.proofs.FoundLemmas.{Found}
use Rattle.scheme_filter.proofs.row_runs.find_runs.Given as goal

abbrev pub invariant-runs : goal.invariant-runs
invariant-runs l = Found l.filters l.row l.from l.runs

abbrev pub decreases-runs : goal.decreases-runs
decreases-runs l = l.row.end - l.from
