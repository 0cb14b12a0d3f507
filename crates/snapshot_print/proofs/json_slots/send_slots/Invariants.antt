use Rattle.std.proofs.Common.{drop}
use Rattle.serde.specs.Event.{Log}
use Rattle.serde_json.specs.Events.{SendsItems}
use Rattle.serde_json.specs.View.{items_of}
use Rattle.snapshot_print.specs.Json.{set_slots_json}
use Rattle.snapshot_print.proofs.json_slots.send_slots.Given as goal

-- what ends the values of the other slots well ends the whole list well
abbrev pub invariant-loop-slot : goal.invariant-loop-slot
invariant-loop-slot g l =
    (end : Log) → SendsItems (items_of (set_slots_json l.slot (drop l.slot l.engine.slots))) (g.S.Serializer.written l.out) end
    → SendsItems (items_of (set_slots_json 0 l.engine.slots)) (g.S.Serializer.written l.initial.out) end
