use Rattle.std.proofs.Common.{◌≡◌}
use Rattle.page_words.specs.Clears.{last_clear_pass}
use Rattle.live_tests.proofs.page_threads.load_pages.Given as goal

abbrev pub invariant-loading : goal.invariant-loading
invariant-loading l = (l.seat.table ≡ l.initial.seat.table) × (last_clear_pass l.seat.entries ≡ last_clear_pass l.initial.seat.entries)
