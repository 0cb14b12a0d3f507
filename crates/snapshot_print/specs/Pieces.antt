-- Internal to the proofs: parts of the lines of a report in JSON, as they are written one after another.
use Rattle.std.specs.Prelude.{ℕ, ◌+◌, ◌*◌, List, ◌++◌, codes, map, Option}
use Rattle.std.specs.Fmt.{decimal}
use Rattle.damon_types.specs.declared.scheme.Action.{Action}
use Rattle.damon_types.specs.declared.space.Target.{Target}
use Rattle.line_text.specs.Address.{spelled_address}
use Rattle.scheme_engine.specs.declared.applied.AppliedRun.{AppliedRun}
use Rattle.serde_json.specs.Data.{Data}
use Rattle.serde_json.specs.Written.{compact_text}
use Rattle.snapshot_print.specs.Fields.{◌then◌, page_address}
use Rattle.snapshot_print.specs.Json.{action_or_null, applied_json, choice_json, list_of}
use Rattle.snapshot_print.specs.Printed.{Printed}

-- the comma before a value, and the value
abbrev pub piece : Data → List ℕ
piece d = codes "," ++ compact_text d

-- the prefix of the item of a run, up to the address after its pages: the same for all runs of a slot
abbrev pub run_prefix : Option Action → List ℕ
run_prefix action = codes ",{\"action\":" then compact_text (action_or_null action) then codes ",\"end\":\""

-- the rest of it
abbrev pub run_rest : List Target → AppliedRun → List ℕ
run_rest space r =
    spelled_address (page_address space r.start + 4096 * r.pages)
    then codes "\",\"score\":" then decimal r.score then codes ",\"slot\":" then decimal r.slot
    then codes ",\"start\":\"" then spelled_address (page_address space r.start)
    then codes "\",\"target\":" then decimal r.target then codes "}"

-- the item of a run of a slot with this action
abbrev pub run_parts : List Target → Option Action → AppliedRun → List ℕ
run_parts space action r = run_prefix action ++ run_rest space r

-- the beginning of the line of an aggregation: its runs and its choices
abbrev pub served_part : Printed → List ℕ
served_part p =
    codes "{\"applied\":" then compact_text (list_of (map (applied_json p.core.space p.slots) p.core.report.runs))
    then codes ",\"choices\":" then compact_text (list_of (map choice_json p.core.report.choices))
