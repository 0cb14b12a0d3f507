use Rattle.std.proofs.Common.{◌≡◌, ◌++◌, subst}
use Rattle.std.specs.Prelude.{OnOk}
use Rattle.damon_core.specs.Report.{ReportValue, report_value}
use Rattle.snapshot_print.specs.Lines.{aggregate_line, row_lines}
use Rattle.snapshot_print.specs.Schemes.{choices_text}
use Rattle.snapshot_print.proofs.Rows.{served_joined}
use Rattle.snapshot_print.proofs.aggregate.print_report.Goals as goal

pub returns-clause-ok : goal.returns-clause-ok
returns-clause-ok c =
    let m = c.args.monitor.now in
    let space = m.core.space in
    let report = report_value c.report-report.result.now in
    let old = c.args.out.now.items in
    let text = c.print_choices.new.out.items ++ row_lines c.space-3.result.now report.rows in
    let joined : text ≡ old ++ (aggregate_line report ++ (choices_text space m.slots report.runs report.choices ++ row_lines space report.rows)) =
    rw (c.in_ok-print_choices.ensures.ok, c.in_ok-print_first_rows.ensures.ok, c.engine.ensures.slots, c.space-2.ensures, c.space-3.ensures) (served_joined old (aggregate_line report) (choices_text space m.slots report.runs report.choices) (row_lines space report.rows)) in
    let whole = subst (λ (v : ReportValue). text ≡ old ++ (aggregate_line v ++ (choices_text space m.slots v.runs v.choices ++ row_lines space v.rows))) c.report-report.ensures.report joined in
    subst (λ t. OnOk c.print_rows.result (c.print_rows.new.out.items ≡ t)) whole c.print_rows.ensures.ok
