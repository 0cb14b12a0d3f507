use Rattle.std.proofs.Common.{drop}
use Rattle.std.specs.Prelude.{map}
use Rattle.serde.specs.Event.{Log}
use Rattle.serde_json.specs.Events.{SendsItems}
use Rattle.serde_json.specs.View.{items_of}
use Rattle.snapshot_print.specs.Json.{choice_json}
use Rattle.snapshot_print.proofs.json_choices.ChoicesSerialize.serialize.Given as goal

-- what ends the rest of the list well ends the whole list well
abbrev pub invariant-choices : goal.invariant-choices
invariant-choices g l =
    (end : Log) → SendsItems (items_of (map choice_json (drop l.choice-index l.choice-items))) (g.S.Serializer.written l.out) end
    → SendsItems (items_of (map choice_json l.self.choices.now)) (g.S.Serializer.written l.initial.out) end
