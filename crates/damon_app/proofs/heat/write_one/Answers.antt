use Rattle.std.proofs.Common.{◌≤◌, List, ap, sym, subst}
use Rattle.std.specs.List.{AllByRecursion}
use Rattle.damon_types.specs.declared.attrs.Attrs.{Attrs}
use Rattle.damon_types.specs.declared.attrs.TheConstants.{MAX_AGGR}
use Rattle.damon_types.specs.declared.row.Row.{Row}
use Rattle.heat_report.specs.InSpace.{LieIn}
use Rattle.damon_core.specs.Report.{ReportValue}
use Rattle.damon_core.specs.State.{Core}
use Rattle.damon_core.proofs.Lemmas.{reached_reported}
use Rattle.heat_report.proofs.Lemmas.{tiled_rows_lie}
use Rattle.damon_app.proofs.heat.write_one.Goals as goal

pub write_report-requires-clause-aggr : goal.write_report-requires-clause-aggr
write_report-requires-clause-aggr g c =
    let told = reached_reported c.requires.state.0 c.requires.state.1 in
    let core = c.requires.state.2.same in
    subst (λ (a : Attrs). 1 ≤ a.aggr) (sym c.attrs.ensures.attrs) (subst (λ (k : Core). 1 ≤ k.attrs.aggr) (sym core) told.aggr)

pub write_report-requires-clause-rows : goal.write_report-requires-clause-rows
write_report-requires-clause-rows g c =
    let told = reached_reported c.requires.state.0 c.requires.state.1 in
    let core = c.requires.state.2.same in
    let rows = ap (λ (r : ReportValue). r.rows) c.report.ensures.report in
    let lie = tiled_rows_lie told.unit c.requires.state.0.core.space told.ranges c.requires.state.0.core.report.rows told.order told.within told.tiles in
    subst (λ ts. LieIn ts c.report.result.now.rows.rows) (sym c.space.ensures)
    (subst (λ rs. LieIn c.args.monitor.now.core.space rs) (sym rows)
    (subst (λ (k : Core). LieIn k.space k.report.rows) (sym core) lie))

pub write_report-requires-clause-counts : goal.write_report-requires-clause-counts
write_report-requires-clause-counts g c =
    let told = reached_reported c.requires.state.0 c.requires.state.1 in
    let core = c.requires.state.2.same in
    let rows = ap (λ (r : ReportValue). r.rows) c.report.ensures.report in
    let Few : List Row → Type 0 = AllByRecursion (λ r. r.count ≤ MAX_AGGR) in
    subst Few (sym rows) (subst (λ (k : Core). Few k.report.rows) (sym core) told.counts)
