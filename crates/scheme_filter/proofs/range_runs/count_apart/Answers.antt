use Rattle.std.proofs.Common.{◌+◌, ◌≤◌, ◌<◌, ◌^◌, ◌∙◌, arith}
use Rattle.scheme_filter.specs.Passes.{passes}
use Rattle.scheme_filter.specs.Runs.{run_end}
use Rattle.scheme_filter.proofs.LongestLemmas.{all_weaker}
use Rattle.scheme_filter.proofs.RangeLemmas.{count_few, count_is}
use Rattle.scheme_filter.proofs.RowLemmas.{row_fits}
use Rattle.scheme_filter.proofs.range_runs.count_apart.Goals as goal

pub overflow_add-end : goal.overflow_add-end
overflow_add-end c = omega (arith, row_fits c.args.ranges.now.list c.args.row c.len-count.ensures.order c.requires.held)

pub reach-requires-clause-end : goal.reach-requires-clause-end
reach-requires-clause-end c = omega (arith, row_fits c.args.ranges.now.list c.args.row c.len-count.ensures.order c.requires.held)

pub count-requires-clause-ends : goal.count-requires-clause-ends
count-requires-clause-ends c =
    let near = c.reach.new.near in
    all_weaker (λ r. (near.from ≤ r.start) × (run_end r ≤ near.to)) (λ r. run_end r < 2 ^ 32) near.runs (λ r is. omega (arith, is.1, c.reach.ensures.small)) c.reach.ensures.near.within

pub count-requires-clause-few : goal.count-requires-clause-few
count-requires-clause-few c =
    let p = passes c.args.filters.now c.args.space.now c.args.ranges.now.list in
    let r = c.args.row in
    let is = count_is p c.reach.new.near r.start r.pages c.reach.ensures.from c.reach.ensures.to c.reach.ensures.near in
    omega (arith, is, count_few p r.start r.pages, row_fits c.args.ranges.now.list r c.len-count.ensures.order c.requires.held)

pub returns-clause-count : goal.returns-clause-count
returns-clause-count c =
    let p = passes c.args.filters.now c.args.space.now c.args.ranges.now.list in
    let r = c.args.row in
    c.count.ensures ∙ count_is p c.reach.new.near r.start r.pages c.reach.ensures.from c.reach.ensures.to c.reach.ensures.near
