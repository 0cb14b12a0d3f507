use Rattle.std.proofs.Common.{◌+◌, ◌-◌, ◌/◌, ◌≤◌, ◌<◌, subst, ap, arith}
use Rattle.std.specs.Prelude.{slice_index_or}
use Rattle.std.proofs.lemmas.Option.{get_or_from_slice_get}
use Rattle.damon_types.specs.declared.range.Range.{Range}
use Rattle.damon_types.specs.Ranges.{end_of}
use Rattle.scheme_filter.proofs.RangeLemmas.{no_range, range_ends, searched_above, searched_below, searched_first, searched_to}
use Rattle.scheme_filter.proofs.range_runs.search.Goals as goal

pub search-init : goal.search-init
search-init c =
    let gs = c.args.ranges.now.list in
    let r = c.args.row.now in
    rw c.len-high.ensures.len (searched_first gs r c.requires c.len-high.ensures.order)

pub search-preserved-then-get-row : goal.search-preserved-then-get-row
search-preserved-then-get-row c =
    let gs = c.args.ranges.now.list in
    let r = c.args.row.now in
    let middle = c.search.low + (c.search.high - c.search.low) / 2 in
    let is = get_or_from_slice_get gs middle c.get.result no_range c.get.ensures in
    let first : (slice_index_or gs middle no_range).first ≤ r.start = omega (arith, c.if-get-row.true, ap (λ (g : Range). g.first) is) in
    searched_above gs r.start (r.start + r.pages) c.search.low c.search.high middle (omega (arith, c.search-test.true)) first c.search.invariant

pub search-preserved : goal.search-preserved
search-preserved c =
    let gs = c.args.ranges.now.list in
    let r = c.args.row.now in
    let middle = c.search.low + (c.search.high - c.search.low) / 2 in
    let is = get_or_from_slice_get gs middle c.get.result no_range c.get.ensures in
    let later : r.start < (slice_index_or gs middle no_range).first = omega (arith, c.if-get-row.false, ap (λ (g : Range). g.first) is) in
    searched_below gs r.start (r.start + r.pages) c.search.low c.search.high middle c.len-high.ensures.order (omega (arith, c.search-test.true)) (omega (arith, c.search-test.true)) later c.search.invariant

pub returns-clause-from : goal.returns-clause-from
returns-clause-from c =
    let gs = c.args.ranges.now.list in
    let is = get_or_from_slice_get gs c.search.low c.get-2.result no_range c.get-2.ensures in
    omega (arith, c.search.invariant.first, ap (λ (g : Range). g.first) is)

pub returns-clause-to : goal.returns-clause-to
returns-clause-to c =
    let gs = c.args.ranges.now.list in
    let r = c.args.row.now in
    let is = get_or_from_slice_get gs c.search.low c.get-2.result no_range c.get-2.ensures in
    subst (λ g. r.start + r.pages ≤ end_of g) is (searched_to gs r.start (r.start + r.pages) c.search.low c.search.high c.len-high.ensures.order c.search-test.false c.search.invariant)

pub returns-clause-small : goal.returns-clause-small
returns-clause-small c = range_ends c.args.ranges.now.list c.get-2.result c.search.low c.len-high.ensures.order c.get-2.ensures
