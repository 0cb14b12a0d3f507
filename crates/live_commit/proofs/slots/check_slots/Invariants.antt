use Rattle.std.proofs.Common.{◌≡◌, take, drop}
use Rattle.live_commit.specs.Slots.{checked_after, checked_slots}
use Rattle.live_commit.proofs.slots.check_slots.Given as goal

abbrev pub invariant-loop-index : goal.invariant-loop-index
invariant-loop-index l = checked_slots l.version l.changes ≡ checked_after l.version (take l.index l.changes) (drop l.index l.changes)
