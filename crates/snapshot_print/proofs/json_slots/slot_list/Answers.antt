use Rattle.serde_json.proofs.FreeTexts.{text_of_value}
use Rattle.snapshot_print.specs.Json.{list_of, set_slots_json}
use Rattle.snapshot_print.proofs.Floats.{in_slots}
use Rattle.snapshot_print.proofs.json_slots.slot_list.Goals as goal

pub returns-in-Ok : goal.returns-in-Ok
returns-in-Ok c =
    let sent = c.in-Ok.ensures.events in
    let slots = c.args.engine.now.slots in
    text_of_value (list_of (set_slots_json 0 slots)) sent.0 c.in-Ok.list.items sent.1 sent.2 (in_slots 0 slots)
