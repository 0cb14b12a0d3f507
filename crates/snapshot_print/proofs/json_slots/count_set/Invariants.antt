use Rattle.std.proofs.Common.{◌≡◌, ◌≤◌, ◌+◌, drop, length}
use Rattle.snapshot_print.specs.Json.{set_slots_json}
use Rattle.snapshot_print.proofs.json_slots.count_set.Given as goal

abbrev pub invariant-loop-slot : goal.invariant-loop-slot
invariant-loop-slot l = record {
  count : l.set + length (set_slots_json l.slot (drop l.slot l.engine.slots)) ≡ length (set_slots_json 0 l.engine.slots);
  few : l.set ≤ l.slot;
}
