use Rattle.std.proofs.Common.{◌-◌, sym, ap, arith}
use Rattle.damon_types.specs.declared.row.Row.{Row}
use Rattle.region_list.proofs.FindLemmas.{found_none, found_here, found_gap}
use Rattle.region_list.proofs.find.find_row.Goals as goal

pub returns-then-count-eq0 : goal.returns-then-count-eq0
returns-then-count-eq0 c =
    sym (found_none c.args.rows.now.rows c.args.page (λ i within. c.count_up_to-count.ensures.after i (omega arith) within))

pub overflow_sub-page : goal.overflow_sub-page
overflow_sub-page c = rw c.at-row.ensures (c.count_up_to-count.ensures.before (c.count_up_to-count.result - 1) (omega arith))

pub returns-then-page-row : goal.returns-then-page-row
returns-then-page-row c =
    let is = c.count_up_to-count.ensures in
    let start = is.before (c.count_up_to-count.result - 1) (omega arith) in
    sym (found_here c.args.rows.now.rows c.args.page (c.count_up_to-count.result - 1) c.requires.ascending (omega arith) start (omega (arith, start, c.if-page-row.true, ap (λ (r : Row). r.start) c.at-row.ensures, ap (λ (r : Row). r.pages) c.at-row.ensures)))

pub returns-else-page-row : goal.returns-else-page-row
returns-else-page-row c =
    let is = c.count_up_to-count.ensures in
    let start = is.before (c.count_up_to-count.result - 1) (omega arith) in
    sym (found_gap c.args.rows.now.rows c.args.page (c.count_up_to-count.result - 1) c.requires.ascending (omega arith) (omega (arith, start, c.if-page-row.false, ap (λ (r : Row). r.start) c.at-row.ensures, ap (λ (r : Row). r.pages) c.at-row.ensures)) (λ i after within. is.after i (omega arith) within))
