use Rattle.std.proofs.Common.{◌≡◌, ◌+◌, ◌≤◌, ◌<◌, Some, refl, sym, ap, subst, ◌∙◌, arith}
use Rattle.std.proofs.lemmas.Option.{get_or_from_slice_get, slice_get_within}
use Rattle.damon_types.specs.declared.range.Range.{Range}
use Rattle.damon_types.specs.declared.row.Row.{Row}
use Rattle.damon_types.specs.Ranges.{IsRange, class_of, end_of}
use Rattle.scheme_filter.specs.declared.row_pages.RowPages.{RowPages}
use Rattle.scheme_filter.specs.Passes.{passes}
use Rattle.scheme_filter.specs.RowPages.{answer_at}
use Rattle.scheme_filter.proofs.LongestLemmas.{longest_same}
use Rattle.scheme_filter.proofs.RangeLemmas.{lies_in_itself, range_ends}
use Rattle.scheme_filter.proofs.RowLemmas.{class_at, range_fits, row_answer, row_within}
use Rattle.scheme_filter.proofs.row_runs.passing_in.Goals as goal

-- all pages of a range as a row
abbrev row_of : Range → Row
row_of g = record { target = g.target; start = g.first; pages = g.pages; count = 0; last = 0; age = 0 }

pub overflow_add-row : goal.overflow_add-row
overflow_add-row c = omega (arith, range_ends c.args.ranges.now.list c.args.range.now c.requires.one.0 c.len-count.ensures.order c.requires.one.1)

pub addr_of-requires : goal.addr_of-requires
addr_of-requires c =
    let gs = c.args.ranges.now.list in
    let g = c.args.range.now in
    let i = c.requires.one.0 in
    let at = c.requires.one.1 in
    let fits : IsRange g = subst IsRange (get_or_from_slice_get gs i g g at) (range_fits 0 0 gs i g c.len-count.ensures.order (slice_get_within gs i g at)) in
    omega (arith, row_within c.args.space.now gs (row_of g) c.requires.within (lies_in_itself gs g _ i at refl), fits.pages)

pub returns : goal.returns
returns c =
    let fs = c.args.filters.now in
    let space = c.args.space.now in
    let gs = c.args.ranges.now.list in
    let g = c.args.range.now in
    let i = c.requires.one.0 in
    let at = c.requires.one.1 in
    let is = get_or_from_slice_get gs i g g at in
    let fits : IsRange g = subst IsRange is (range_fits 0 0 gs i g c.len-count.ensures.order (slice_get_within gs i g at)) in
    let here : class_of gs g.first ≡ Some g.class = subst (λ h. h.first ≤ g.first → g.first < end_of h → class_of gs g.first ≡ Some h.class) is (class_at 0 0 gs i g g.first c.len-count.ensures.order (slice_get_within gs i g at)) (omega arith) (omega (arith, fits.pages)) in
    let pages : RowPages = record { start = g.first; end = g.first + g.pages; first = c.addr_of.result; class = Some g.class } in
    longest_same (passes fs space gs) (answer_at c.as_slice.result.now pages) pages.start pages.end c.find_runs.new.runs
    (λ p low high. ap (λ fs. passes fs space gs p) (sym c.as_slice.ensures.items)
    ∙ row_answer c.as_slice.result.now space gs (row_of g) pages p c.len-count.ensures.order c.requires.within (lies_in_itself gs g _ i at refl) refl c.addr_of.ensures.place (sym here) low high)
    c.find_runs.ensures
