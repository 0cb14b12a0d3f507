use Rattle.std.proofs.Common.{◌≡◌, [], drop, sym, ◌∙◌, subst, arith}
use Rattle.std.specs.Prelude.{Some}
use Rattle.std.proofs.lemmas.List.{drop_all}
use Rattle.std.proofs.lemmas.Result.{on_ok_weaker}
use Rattle.serde.specs.Event.{Logs, seq_begins}
use Rattle.serde_json.specs.View.{items_of}
use Rattle.serde_json.specs.Events.{SendsItems}
use Rattle.snapshot_print.specs.Json.{set_slots_json}
use Rattle.snapshot_print.proofs.JsonSlots.{items_len-items_of}
use Rattle.snapshot_print.proofs.json_slots.send_slots.Goals as goal

pub returns : goal.returns
returns g c =
    let slots = c.args.engine.now.slots in
    let old = g.S.Serializer.written c.args.out.now in
    let first = g.S.Serializer.written c.begin_seq.new.self in
    let end = g.S.Serializer.written c.end_seq.new.self in
    let begun = subst (λ n. Logs old first (seq_begins (Some n))) (c.count_set.ensures ∙ sym (items_len-items_of (set_slots_json 0 slots))) c.in_ok-begin_seq.ensures in
    let none : drop c.loop-slot.slot slots ≡ [] = drop_all c.loop-slot.slot slots (omega (arith, c.slots-slot-end.ensures.count)) in
    on_ok_weaker c.end_seq.result (λ e. (first, begun, c.loop-slot.invariant end (subst (λ ss. SendsItems (items_of (set_slots_json c.loop-slot.slot ss)) (g.S.Serializer.written c.loop-slot.out) end) (sym none) e))) c.end_seq.ensures
