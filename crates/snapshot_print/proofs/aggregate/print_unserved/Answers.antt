use Rattle.std.proofs.Common.{◌≡◌, ◌++◌, drop, take, refl, subst}
use Rattle.std.specs.Prelude.{OnOk}
use Rattle.damon_core.specs.Report.{ReportValue, report_value}
use Rattle.snapshot_print.specs.Lines.{aggregate_line, row_lines}
use Rattle.snapshot_print.proofs.Rows.{text_joined}
use Rattle.snapshot_print.proofs.aggregate.print_unserved.Goals as goal

pub returns-clause-ok : goal.returns-clause-ok
returns-clause-ok c =
    let core = c.args.monitor.now.core in
    let report = report_value c.report-report.result.now in
    let count = c.min-count.result in
    let old = c.args.out.now.items in
    let text = c.print_first_rows.new.out.items ++ row_lines c.space-space.result.now (drop count report.rows) in
    let joined : text ≡ old ++ (aggregate_line report ++ row_lines core.space report.rows) =
    rw (c.in_ok-print_first_rows.ensures.ok, c.space-space.ensures) (text_joined core.space count report.rows (take count report.rows) (drop count report.rows) old (aggregate_line report) refl refl) in
    let whole : text ≡ old ++ (aggregate_line core.report ++ row_lines core.space core.report.rows) =
    subst (λ (v : ReportValue). text ≡ old ++ (aggregate_line v ++ row_lines core.space v.rows)) c.report-report.ensures.report joined in
    subst (λ t. OnOk c.print_rows_from.result (c.print_rows_from.new.out.items ≡ t)) whole c.print_rows_from.ensures.ok
