use Rattle.std.proofs.Common.{◌≡◌, ℕ, List, ◌++◌, ◌∙◌, sym, ap, ap₂, append_assoc, codes, decimal, subst}
use Rattle.std.specs.Prelude.{OnOk}
use Rattle.damon_types.specs.declared.row.Row.{Row}
use Rattle.damon_types.specs.declared.space.Target.{Target}
use Rattle.serde_json.specs.Written.{compact_text}
use Rattle.snapshot_print.specs.Json.{as_json, rows_json}
use Rattle.snapshot_print.specs.Printed.{printed_monitor}
use Rattle.snapshot_print.proofs.JsonWhole.{aggregate_joined}
use Rattle.snapshot_print.proofs.json_lines.print_aggregate_line.Goals as goal

pub returns-clause-ok : goal.returns-clause-ok
returns-clause-ok c =
    let m = c.args.monitor.now in
    let old = c.args.out.now.items in
    let rows : c.print_row_list.new.out.items ≡ c.extend_from_slice.new.self.items ++ compact_text (rows_json m.core.space m.core.report.rows) =
    c.in_ok-print_row_list.ensures.ok
    ∙ ap₂ (λ (s : List Target) (rs : List Row). c.extend_from_slice.new.self.items ++ compact_text (rows_json s rs)) c.space.ensures (ap (λ v. v.rows) c.report-report.ensures.report) in
    let threshold : c.append_field.new.out.items ≡ (c.print_row_list.new.out.items ++ codes ",\"threshold\":") ++ decimal m.core.report.threshold =
    c.in_ok-append_field.ensures.ok
    ∙ ap (λ (n : ℕ). c.print_row_list.new.out.items ++ (codes ",\"threshold\":" ++ decimal n)) (c.from.ensures ∙ ap (λ v. v.threshold) c.report-report.ensures.report)
    ∙ sym (append_assoc c.print_row_list.new.out.items (codes ",\"threshold\":") (decimal m.core.report.threshold)) in
    let joined : c.append_field.new.out.items ++ (codes ",\"tick\":" ++ (decimal c.report-report.result.now.tick ++ codes "}\n")) ≡ old ++ as_json.aggregate (printed_monitor m) =
    ap (λ (n : ℕ). c.append_field.new.out.items ++ (codes ",\"tick\":" ++ (decimal n ++ codes "}\n"))) (ap (λ v. v.tick) c.report-report.ensures.report)
    ∙ rw (threshold, rows, c.in_ok-extend_from_slice.ensures.items, c.in_ok-print_served.ensures.ok) (aggregate_joined old (printed_monitor m)) in
    subst (λ text. OnOk c.print_last_count.result (c.print_last_count.new.out.items ≡ text)) joined c.print_last_count.ensures.ok
