use Rattle.std.proofs.Common.{arith}
use Rattle.scheme_filter.proofs.RangeLemmas.{range_ends}
use Rattle.scheme_filter.proofs.RowLemmas.{row_fits}
use Rattle.scheme_filter.proofs.range_runs.range_of.Goals as goal

pub holds-requires-clause-range : goal.holds-requires-clause-range
holds-requires-clause-range c = range_ends c.args.ranges.now.list c.get-range.result c.args.next c.len.ensures.order c.get-range.ensures

pub holds-requires-clause-row : goal.holds-requires-clause-row
holds-requires-clause-row c = omega (arith, row_fits c.args.ranges.now.list c.args.row.now c.len.ensures.order c.requires)

pub returns-then-holds-clause-small : goal.returns-then-holds-clause-small
returns-then-holds-clause-small c = range_ends c.args.ranges.now.list c.get-range.result c.args.next c.len.ensures.order c.get-range.ensures
