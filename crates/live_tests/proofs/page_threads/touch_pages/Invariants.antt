use Rattle.std.proofs.Common.{◌≡◌}
use Rattle.live_tests.proofs.page_threads.touch_pages.Given as goal

abbrev pub invariant-touching : goal.invariant-touching
invariant-touching l = (l.seat.table ≡ l.initial.seat.table) × (l.touches.items ≡ l.seat.touches)
