use Rattle.std.proofs.Common.{◌≡◌, take}
use Rattle.std.specs.Prelude.{sum_by}
use Rattle.scheme_filter.specs.RangeRuns.{shared_of}
use Rattle.scheme_filter.proofs.range_runs.RangeRuns.count.Given as goal

abbrev pub invariant-loop-run : goal.invariant-loop-run
invariant-loop-run l = l.count ≡ sum_by (shared_of l.start l.end) (take l.run-index l.self.runs)
