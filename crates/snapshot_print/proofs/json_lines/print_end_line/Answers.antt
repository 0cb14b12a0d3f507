use Rattle.std.proofs.Common.{◌≡◌, ◌++◌, ◌∙◌, ap, codes, decimal, length, subst}
use Rattle.std.specs.Prelude.{OnOk}
use Rattle.damon_core.specs.State.{row_count}
use Rattle.snapshot_print.specs.Json.{as_json}
use Rattle.snapshot_print.specs.Printed.{printed_monitor}
use Rattle.snapshot_print.proofs.JsonWhole.{end_joined}
use Rattle.snapshot_print.proofs.json_lines.print_end_line.Goals as goal

pub returns-clause-ok : goal.returns-clause-ok
returns-clause-ok c =
    let m = c.args.monitor.now in
    let old = c.args.out.now.items in
    let rows : c.from.result ≡ row_count m.core = c.from.ensures ∙ (c.len-rows.ensures.len ∙ ap (λ v. length v.rows) c.rows.ensures.rows) in
    let joined : c.append_field-3.new.out.items ++ (codes ",\"ticks\":" ++ (decimal c.ticks.result ++ codes "}\n")) ≡ old ++ as_json.end (printed_monitor m) =
    rw (c.in_ok-append_field-3.ensures.ok, c.in_ok-append_field-2.ensures.ok, c.in_ok-append_field.ensures.ok, rows, c.checks.ensures, c.hits.ensures, c.ticks.ensures) (end_joined old (printed_monitor m)) in
    subst (λ text. OnOk c.print_last_count.result (c.print_last_count.new.out.items ≡ text)) joined c.print_last_count.ensures.ok
