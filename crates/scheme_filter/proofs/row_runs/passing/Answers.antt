use Rattle.std.proofs.Common.{◌+◌, ◌≤◌, ◌<◌, ◌^◌, List, refl, sym, ap, ◌∙◌, arith}
use Rattle.std.specs.Prelude.{sum_by}
use Rattle.scheme_filter.specs.declared.row_pages.RowPages.{RowPages}
use Rattle.scheme_filter.specs.declared.runs.Run.{Run}
use Rattle.scheme_filter.specs.Passes.{passes}
use Rattle.scheme_filter.specs.RowPages.{answer_at}
use Rattle.scheme_filter.specs.Runs.{run_end}
use Rattle.scheme_filter.proofs.LongestLemmas.{all_weaker, longest_same}
use Rattle.scheme_filter.proofs.RowLemmas.{row_answer, row_fits, row_within}
use Rattle.scheme_filter.proofs.RunsOfLemmas.{longest_is, runs_of-few}
use Rattle.scheme_filter.proofs.row_runs.passing.Goals as goal

pub overflow_add-row : goal.overflow_add-row
overflow_add-row c = omega (arith, row_fits c.args.ranges.now.list c.args.row.now c.len-count.ensures.order c.requires.held)

pub addr_near-requires : goal.addr_near-requires
addr_near-requires c = omega (arith, row_within c.args.space.now c.args.ranges.now.list c.args.row.now c.requires.within c.requires.held)

pub returns-clause-longest : goal.returns-clause-longest
returns-clause-longest c =
    let fs = c.args.filters.now in
    let space = c.args.space.now in
    let ranges = c.args.ranges.now.list in
    let row = c.args.row.now in
    let pages : RowPages = record { start = row.start; end = row.start + row.pages; first = c.addr_near.result; class = c.class_of.result } in
    longest_same (passes fs space ranges) (answer_at c.as_slice.result.now pages) pages.start pages.end c.find_runs.new.runs
    (λ p low high. ap (λ fs. passes fs space ranges p) (sym c.as_slice.ensures.items)
    ∙ row_answer c.as_slice.result.now space ranges row pages p c.len-count.ensures.order c.requires.within c.requires.held refl c.addr_near.ensures.place c.class_of.ensures low high)
    c.find_runs.ensures

pub returns-clause-exact : goal.returns-clause-exact
returns-clause-exact c = longest_is (passes c.args.filters.now c.args.space.now c.args.ranges.now.list) c.args.row.now.pages c.args.row.now.start c.find_runs.new.runs (returns-clause-longest c)

pub returns-clause-fits : goal.returns-clause-fits
returns-clause-fits c =
    let row = c.args.row.now in
    let few = runs_of-few (passes c.args.filters.now c.args.space.now c.args.ranges.now.list) row.pages row.start in
    omega (arith, few, ap (λ (rs : List Run). sum_by (λ r. r.pages) rs) (returns-clause-exact c), row_fits c.args.ranges.now.list row c.len-count.ensures.order c.requires.held)

pub returns-clause-ends : goal.returns-clause-ends
returns-clause-ends c =
    let row = c.args.row.now in
    let fits = row_fits c.args.ranges.now.list row c.len-count.ensures.order c.requires.held in
    all_weaker (λ r. (row.start ≤ r.start) × (run_end r ≤ row.start + row.pages)) (λ r. run_end r < 2 ^ 32) c.find_runs.new.runs (λ r is. omega (arith, is.1, fits)) (returns-clause-longest c).within
