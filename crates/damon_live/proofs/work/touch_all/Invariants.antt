use Rattle.std.proofs.Common.{◌≡◌, ◌≤◌, ◌+◌, length, take}
use Rattle.run_journal.specs.Lawful.{touches_of}
use Rattle.damon_live.specs.Whole.{pages_touched}
use Rattle.damon_live.proofs.work.touch_all.Given as goal

abbrev pub invariant-loop-index : goal.invariant-loop-index
invariant-loop-index g l =
    (l.seat.table ≡ l.initial.seat.table)
    × (l.seat.worker ≡ l.initial.seat.worker)
    × (l.seat.touches ≡ touches_of l.receipts.list)
    × (pages_touched l.receipts.list ≡ take l.index l.trace.list)
    × (length l.trace.list ≤ l.receipts.spare + l.index)
