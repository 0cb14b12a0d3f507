use Rattle.std.proofs.Common.{◌≡◌, ◌*◌, ◌+◌, ◌/◌, length}
use Rattle.std.specs.Prelude.{vec_capacity}
use Rattle.sampler.specs.Draws.{drawn, drawn_rest}
use Rattle.sampler.proofs.drawing.draw_words.Given as goal

abbrev pub invariant-fours : goal.invariant-fours
invariant-fours g l = record {
  words : l.words.items ≡ drawn (4 * l.counter) (g.R.Rng.stream l.fn.source);
  rest : g.R.Rng.stream l.source ≡ drawn_rest (4 * l.counter) (g.R.Rng.stream l.fn.source);
  len : length l.words.items ≡ 4 * l.counter;
  room : vec_capacity l.words ≡ vec_capacity l.fn.words;
}

abbrev pub invariant-others : goal.invariant-others
invariant-others g l = record {
  words : l.words.items ≡ drawn (4 * (l.count / 4) + l.counter) (g.R.Rng.stream l.fn.source);
  rest : g.R.Rng.stream l.source ≡ drawn_rest (4 * (l.count / 4) + l.counter) (g.R.Rng.stream l.fn.source);
  len : length l.words.items ≡ 4 * (l.count / 4) + l.counter;
  room : vec_capacity l.words ≡ vec_capacity l.fn.words;
}
