use Rattle.std.proofs.Common.{◌≡◌, ◌*◌, length, take}
use Rattle.sampler.specs.Draws.{drawn, drawn_rest}
use Rattle.sampler.specs.Pick.{picks_of}
use Rattle.sampler.proofs.picks.pick_drawn.Given as goal

abbrev pub invariant-fours : goal.invariant-fours
invariant-fours g l = record {
  pages : take (4 * l.four) l.pages ≡ picks_of (take (4 * l.four) l.regions.rows) (drawn (length l.regions.rows) (g.R.Rng.stream l.fn.source));
  rest : g.R.Rng.stream l.source ≡ drawn_rest (4 * l.four) (g.R.Rng.stream l.fn.source);
  each : length l.pages ≡ length l.regions.rows;
}

abbrev pub invariant-others : goal.invariant-others
invariant-others g l = record {
  pages : take l.index l.pages ≡ picks_of (take l.index l.regions.rows) (drawn (length l.regions.rows) (g.R.Rng.stream l.fn.source));
  rest : g.R.Rng.stream l.source ≡ drawn_rest l.index (g.R.Rng.stream l.fn.source);
  each : length l.pages ≡ length l.regions.rows;
}
