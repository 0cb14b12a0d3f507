use Rattle.std.proofs.Common.{◌≡◌, ◌≤◌, length, take}
use Rattle.live_commit.specs.Slots.{kept_slots}
use Rattle.live_commit.proofs.slots.keep_slots.Given as goal

abbrev pub invariant-loop-change : goal.invariant-loop-change
invariant-loop-change l = record {
  kept : l.kept.list ≡ kept_slots (take l.change-index l.changes);
  few : length l.kept.list ≤ l.change-index;
}
