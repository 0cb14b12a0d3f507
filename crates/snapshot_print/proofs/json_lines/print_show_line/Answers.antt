use Rattle.std.proofs.Common.{◌≡◌, ℕ, List, ◌++◌, ◌∙◌, ap, ap₂, codes, decimal, subst}
use Rattle.std.specs.Prelude.{OnOk}
use Rattle.damon_types.specs.declared.row.Row.{Row}
use Rattle.damon_types.specs.declared.space.Target.{Target}
use Rattle.scheme_engine.specs.Slots.{SlotValue}
use Rattle.serde_json.specs.Written.{compact_text}
use Rattle.snapshot_print.specs.Fields.{phase_name}
use Rattle.snapshot_print.specs.Json.{as_json, list_of, rows_json, set_slots_json}
use Rattle.snapshot_print.specs.Printed.{printed_monitor}
use Rattle.snapshot_print.proofs.JsonWhole.{show_joined}
use Rattle.snapshot_print.proofs.json_lines.print_show_line.Goals as goal

pub returns-clause-ok : goal.returns-clause-ok
returns-clause-ok c =
    let m = c.args.monitor.now in
    let old = c.args.out.now.items in
    let phase = c.as_bytes-phase.ensures.value ∙ (c.phase_name.ensures ∙ ap phase_name c.phase.ensures.phase) in
    let kind : c.print_word.new.out.items ≡ old ++ (codes "{\"kind\":\"show\",\"phase\":\"" ++ phase_name m.core.phase) =
    c.in_ok-print_word.ensures.ok ∙ ap (λ (t : List ℕ). old ++ (codes "{\"kind\":\"show\",\"phase\":\"" ++ t)) phase in
    let rows : c.print_row_list.new.out.items ≡ c.extend_from_slice.new.self.items ++ compact_text (rows_json m.core.space m.core.regions.rows) =
    c.in_ok-print_row_list.ensures.ok
    ∙ ap₂ (λ (s : List Target) (rs : List Row). c.extend_from_slice.new.self.items ++ compact_text (rows_json s rs)) c.space.ensures (c.rows-2.ensures.rows ∙ ap (λ v. v.rows) c.rows.ensures.rows) in
    let slots : c.print_slot_list.new.out.items ≡ c.extend_from_slice-2.new.self.items ++ compact_text (list_of (set_slots_json 0 m.slots)) =
    c.in_ok-print_slot_list.ensures.ok ∙ ap (λ (ss : List SlotValue). c.extend_from_slice-2.new.self.items ++ compact_text (list_of (set_slots_json 0 ss))) c.engine.ensures.slots in
    let joined : c.print_slot_list.new.out.items ++ (codes ",\"tick\":" ++ (decimal c.ticks.result ++ codes "}\n")) ≡ old ++ as_json.show (printed_monitor m) =
    rw (slots, c.in_ok-extend_from_slice-2.ensures.items, rows, c.in_ok-extend_from_slice.ensures.items, kind, c.ticks.ensures) (show_joined old (printed_monitor m)) in
    subst (λ text. OnOk c.print_last_count.result (c.print_last_count.new.out.items ≡ text)) joined c.print_last_count.ensures.ok
