use Rattle.std.proofs.Common.{◌≡◌, length, take}
use Rattle.sampler.specs.Draws.{drawn, drawn_rest}
use Rattle.sampler.specs.Seeds.{words_from}
use Rattle.run_journal.specs.Words.{words_after}
use Rattle.run_journal.proofs.words.words_at.Given as goal

abbrev pub invariant-loop-index : goal.invariant-loop-index
invariant-loop-index l = record {
  words : take l.index l.out ≡ drawn l.index (words_after l.seed l.at);
  rest : words_from l.words ≡ drawn_rest l.index (words_after l.seed l.at);
  same : length l.out ≡ length l.fn.out;
}
