use Rattle.std.proofs.Common.{◌≡◌, ◌++◌}
use Rattle.std.specs.List.{flat_map, range_with_len}
use Rattle.tune_run.specs.Callbacks.{slot_text}
use Rattle.tune_run.proofs.lines.append_slots.Given as goal

-- the lines of the slots so far were appended
abbrev pub invariant-slots : goal.invariant-slots
invariant-slots l = l.out.items ≡ l.fn.out.items ++ flat_map (slot_text l.tuner) (range_with_len 0 l.slot)
