use Rattle.std.proofs.Common.{◌≡◌, [], drop, sym, subst, arith}
use Rattle.std.specs.Prelude.{map, Some}
use Rattle.std.proofs.lemmas.List.{drop_all}
use Rattle.std.proofs.lemmas.Result.{on_ok_weaker}
use Rattle.serde.specs.Event.{Logs, seq_begins}
use Rattle.serde_json.specs.View.{items_of}
use Rattle.serde_json.specs.Events.{SendsItems}
use Rattle.snapshot_print.specs.Json.{choice_json}
use Rattle.snapshot_print.proofs.Sending.{items_len-map}
use Rattle.snapshot_print.proofs.json_choices.ChoicesSerialize.serialize.Goals as goal

pub returns : goal.returns
returns g c =
    let xs = c.args.self.now.choices.now in
    let old = g.S.Serializer.written c.args.out.now in
    let first = g.S.Serializer.written c.begin_seq.new.self in
    let end = g.S.Serializer.written c.end_seq.new.self in
    let begun = subst (λ n. Logs old first (seq_begins (Some n))) (sym (items_len-map choice_json xs)) c.in_ok-begin_seq.ensures in
    let none : drop c.choices.choice-index xs ≡ [] = drop_all c.choices.choice-index xs (omega arith) in
    on_ok_weaker c.end_seq.result (λ e. (first, begun, c.choices.invariant end (subst (λ ys. SendsItems (items_of (map choice_json ys)) (g.S.Serializer.written c.choices.out) end) (sym none) e))) c.end_seq.ensures
