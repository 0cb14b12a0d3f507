-- The notes that a setup and a commit leave, part by part.
use Rattle.std.specs.Option.{option_map, option_map_or}
use Rattle.std.specs.Prelude.{ℕ, List, ◌∷◌, Option}
use Rattle.damon_types.specs.declared.scheme.CostPart.{CostPart}
use Rattle.damon_types.specs.declared.scheme.SlotChange.{SlotChange}
use Rattle.damon_core.specs.Note.{Note, set, dropped, metric, cost}

-- the note that a change sets its slot, where the change has a scheme
abbrev pub set_note : SlotChange → Option Note
set_note change = option_map (set change.slot) change.scheme

-- notes with that of a slot change: its slot is set, or dropped where the change has no scheme
abbrev pub with_slot : Option SlotChange → List Note → List Note
with_slot slot notes = option_map_or (λ change. option_map_or (set change.slot) change.scheme (dropped change.slot) ∷ notes) slot notes

-- notes with that of a metric
abbrev pub with_metric : Option ℕ → List Note → List Note
with_metric value notes = option_map_or (λ measured. metric measured ∷ notes) value notes

-- notes with that of a cost
abbrev pub with_cost : Option CostPart → List Note → List Note
with_cost part notes = option_map_or (λ paid. cost paid.slot paid.nanos ∷ notes) part notes
