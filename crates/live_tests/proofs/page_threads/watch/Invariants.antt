use Rattle.std.proofs.Common.{◌≡◌, ◌≤◌}
use Rattle.page_words.specs.Clears.{last_clear_pass}
use Rattle.live_tests.proofs.page_threads.watch.Given as goal

abbrev pub invariant-watching : goal.invariant-watching
invariant-watching l = (l.seat.table ≡ l.initial.seat.table) × (last_clear_pass l.seat.entries ≤ l.pass)
