use Rattle.serde_json.proofs.FreeTexts.{text_of_value}
use Rattle.std.specs.Prelude.{map}
use Rattle.snapshot_print.specs.Json.{choice_json, list_of}
use Rattle.snapshot_print.proofs.Floats.{in_list, in_choice}
use Rattle.snapshot_print.proofs.json_choices.choice_list.Goals as goal

pub returns-in-Ok : goal.returns-in-Ok
returns-in-Ok c =
    let sent = c.in-Ok.ensures.events in
    let choices = c.args.choices.now in
    text_of_value (list_of (map choice_json choices)) sent.0 c.in-Ok.list.items sent.1 sent.2 (in_list choice_json in_choice choices)
