use Rattle.std.proofs.Common.{◌≡◌, ℕ, List, ◌++◌, ◌∙◌, ap, ap₂, codes, append_assoc, subst, sym}
use Rattle.std.specs.Prelude.{OnOk, map}
use Rattle.damon_types.specs.declared.space.Target.{Target}
use Rattle.scheme_engine.specs.declared.applied.AppliedRun.{AppliedRun}
use Rattle.scheme_engine.specs.declared.applied.SlotChoice.{SlotChoice}
use Rattle.scheme_engine.specs.Slots.{SlotValue}
use Rattle.serde_json.specs.Written.{compact_text}
use Rattle.snapshot_print.specs.Json.{applied_json, choice_json, list_of}
use Rattle.line_text.specs.Appended.{KeepsFront}
use Rattle.snapshot_print.specs.Pieces.{served_part}
use Rattle.snapshot_print.specs.Printed.{printed_monitor}
use Rattle.line_text.proofs.Lemmas.{keeps-append, keeps_through}
use Rattle.snapshot_print.proofs.json_lines.print_served.Goals as goal

joined : (old a b c d : List ℕ) → (((old ++ a) ++ b) ++ c) ++ d ≡ old ++ (a ++ (b ++ (c ++ d)))
joined old a b c d = simp append_assoc

pub returns-clause-ok : goal.returns-clause-ok
returns-clause-ok c =
    let m = c.args.monitor.now in
    let old = c.args.out.now.items in
    let report = c.report.ensures.report in
    let runs : c.print_run_list.new.out.items ≡ c.extend_from_slice.new.self.items ++ compact_text (list_of (map (applied_json m.core.space m.slots) m.core.report.runs)) =
    c.in_ok-print_run_list.ensures.ok
    ∙ ap₂ (λ (s : List Target) (ss : List SlotValue). c.extend_from_slice.new.self.items ++ compact_text (list_of (map (applied_json s ss) c.runs.result.now))) c.space.ensures c.engine.ensures.slots
    ∙ ap (λ (rs : List AppliedRun). c.extend_from_slice.new.self.items ++ compact_text (list_of (map (applied_json m.core.space m.slots) rs))) (c.runs.ensures.runs ∙ ap (λ v. v.runs) report) in
    let choices : c.extend_from_slice-2.new.self.items ++ compact_text (list_of (map choice_json c.choices.result.now)) ≡ old ++ served_part (printed_monitor m) =
    ap (λ (cs : List SlotChoice). c.extend_from_slice-2.new.self.items ++ compact_text (list_of (map choice_json cs))) (c.choices.ensures.choices ∙ ap (λ v. v.choices) report)
    ∙ rw (c.in_ok-extend_from_slice-2.ensures.items, runs, c.in_ok-extend_from_slice.ensures.items) (joined old (codes "{\"applied\":") (compact_text (list_of (map (applied_json m.core.space m.slots) m.core.report.runs))) (codes ",\"choices\":") (compact_text (list_of (map choice_json m.core.report.choices)))) in
    subst (λ text. OnOk c.print_choice_list.result (c.print_choice_list.new.out.items ≡ text)) choices c.print_choice_list.ensures.ok

pub returns-clause-kept : goal.returns-clause-kept
returns-clause-kept c =
    let old = c.args.out.now.items in
    let first : KeepsFront old c.extend_from_slice.new.self.items = subst (KeepsFront old) (sym c.in_ok-extend_from_slice.ensures.items) (keeps-append old (codes "{\"applied\":")) in
    let second = keeps_through old c.extend_from_slice.new.self.items c.print_run_list.new.out.items first c.in_ok-print_run_list.ensures.kept in
    let third : KeepsFront c.print_run_list.new.out.items c.extend_from_slice-2.new.self.items = subst (KeepsFront c.print_run_list.new.out.items) (sym c.in_ok-extend_from_slice-2.ensures.items) (keeps-append c.print_run_list.new.out.items (codes ",\"choices\":")) in
    keeps_through old c.extend_from_slice-2.new.self.items c.print_choice_list.new.out.items (keeps_through old c.print_run_list.new.out.items c.extend_from_slice-2.new.self.items second third) c.print_choice_list.ensures.kept
