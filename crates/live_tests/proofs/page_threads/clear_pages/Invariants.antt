use Rattle.std.proofs.Common.{◌≡◌, ◌≤◌}
use Rattle.page_words.specs.Clears.{last_clear_pass}
use Rattle.live_tests.proofs.page_threads.clear_pages.Given as goal

abbrev pub invariant-clearing : goal.invariant-clearing
invariant-clearing l = (l.seat.table ≡ l.initial.seat.table) × (last_clear_pass l.seat.entries ≤ l.pass)
