use Rattle.std.proofs.Common.{◌≡◌, ◌++◌, drop}
use Rattle.line_text.specs.Appended.{KeepsFront}
use Rattle.snapshot_print.specs.Schemes.{shown_slots}
use Rattle.snapshot_print.proofs.slot_text.print_slots.Given as goal

abbrev pub invariant-loop-slot : goal.invariant-loop-slot
invariant-loop-slot l = record {
  text : l.out.items ++ shown_slots l.slot (drop l.slot l.engine.slots) ≡ l.fn.out.items ++ shown_slots 0 l.engine.slots;
  kept : KeepsFront l.fn.out.items l.out.items;
}
