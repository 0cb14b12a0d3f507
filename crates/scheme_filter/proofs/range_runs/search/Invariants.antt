use Rattle.std.proofs.Common.{◌+◌, ◌-◌}
use Rattle.scheme_filter.proofs.RangeLemmas.{Searched}
use Rattle.scheme_filter.proofs.range_runs.search.Given as goal

abbrev pub invariant-search : goal.invariant-search
invariant-search l = Searched l.ranges.list l.row.start (l.row.start + l.row.pages) l.low l.high

abbrev pub decreases-search : goal.decreases-search
decreases-search l = l.high - l.low
