use Rattle.std.proofs.Common.{◌≡◌, length}
use Rattle.page_words.specs.Clears.{last_clear_pass}
use Rattle.page_words.proofs.StepsOfPass.{HasLoaded}
use Rattle.page_words.proofs.words.PageWords.load_each.Given as goal

abbrev pub invariant-loop-k : goal.invariant-loop-k
invariant-loop-k l = record {
  table : l.seat.table ≡ l.initial.seat.table;
  each : length l.hits ≡ length l.initial.hits;
  loaded : HasLoaded l.initial.seat l.seat l.pages l.hits l.k;
  last : last_clear_pass l.seat.entries ≡ last_clear_pass l.initial.seat.entries;
}
