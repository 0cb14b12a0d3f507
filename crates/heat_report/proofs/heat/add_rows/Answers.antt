use Rattle.std.proofs.Common.{◌+◌, ◌≤◌, ◌<◌, drop, length, arith}
use Rattle.std.proofs.lemmas.Bool.Decides.{nat_tests}
use Rattle.heat_report.specs.Heat.{border}
use Rattle.heat_report.proofs.Walking.{behind_all, row_read, walk_done, walk_next}
use Rattle.heat_report.proofs.heat.add_rows.Goals as goal

pub rows-preserved : goal.rows-preserved
rows-preserved g c =
    let all = c.args.rows.now.rows in
    let row = c.add_row-column in
    let below : c.rows.index < length all = grind (arith, nat_tests, c.rows-test.true, c.count.ensures) in
    record {
      within = omega (arith, below);
      walk = walk_next c.args.columns.now.first c.args.columns.now.pages g.row.N c.args.out.now (drop c.args.from all) c.rows.column row.result c.rows.out row.new.out c.at-row.result (drop (c.rows.index + 1) all) (drop c.rows.index all) (row_read all c.rows.index c.at-row.result below c.at-row.ensures) row.ensures.column row.ensures.begun row.ensures.len row.ensures.sum row.ensures.heat c.rows.invariant.walk;
    }

pub returns-then-row-end-clause-heat : goal.returns-then-row-end-clause-heat
returns-then-row-end-clause-heat g c =
    let first = c.args.columns.now.first in
    let pages = c.args.columns.now.pages in
    let all = c.args.rows.now.rows in
    let left = drop c.rows.index all in
    let below : c.rows.index < length all = grind (arith, nat_tests, c.rows-test.true, c.count.ensures) in
    let past : first + pages ≤ c.at-row.result.start = grind (arith, nat_tests, c.if-row-end.true) in
    let behind = behind_all (first + pages) (border first pages g.row.N c.rows.column) c.at-row.result (drop (c.rows.index + 1) all) left (row_read all c.rows.index c.at-row.result below c.at-row.ensures) past c.rows.invariant.walk.ascend in
    walk_done first pages g.row.N c.args.out.now (drop c.args.from all) c.rows.column c.rows.out left behind c.rows.invariant.walk
