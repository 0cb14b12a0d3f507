use Rattle.std.proofs.Common.{◌+◌, arith}
use Rattle.scheme_filter.specs.Passes.{passes}
use Rattle.scheme_filter.proofs.RangeLemmas.{all_pass, in_first_within, none_pass}
use Rattle.scheme_filter.proofs.RowLemmas.{row_fits}
use Rattle.scheme_filter.proofs.range_runs.count_passing.Goals as goal

pub overflow_add-end : goal.overflow_add-end
overflow_add-end c = omega (arith, row_fits c.args.ranges.now.list c.args.row.now c.len-count.ensures.order c.requires.held)

pub returns-then-is_in_first : goal.returns-then-is_in_first
returns-then-is_in_first c =
    let p = passes c.args.filters.now c.args.space.now c.args.ranges.now.list in
    let r = c.args.row.now in
    let near = c.args.near.now in
    let first = c.is_in_first.ensures c.if-is_in_first.true in
    let within = in_first_within near r.start (r.start + r.pages) c.requires.near.within first in
    record {
      count = all_pass p near r.start r.pages within.0 within.1 c.requires.near first;
      near = c.requires.near;
    }

pub returns-then-has_none : goal.returns-then-has_none
returns-then-has_none c =
    let p = passes c.args.filters.now c.args.space.now c.args.ranges.now.list in
    let r = c.args.row.now in
    let none = c.has_none.ensures in
    let is = c.if-has_none.true in
    record {
      count = none_pass p c.args.near.now r.start r.pages (none.none is) (none.from is) (none.to is) c.requires.near;
      near = c.requires.near;
    }
