use Rattle.std.proofs.Common.{◌≡◌, ◌+◌, ◌*◌, ◌≤◌, length}
use Rattle.sampler.specs.Draws.{drawn_rest}
use Rattle.damon_world.specs.Drawing.{AreDrawn}
use Rattle.damon_world.proofs.drawing.draw_in_quarters.Given as goal

abbrev pub invariant-loop-index : goal.invariant-loop-index
invariant-loop-index g l = record {
  len : length l.words ≡ length l.fn.words;
  quarters : 4 * l.quarter ≤ length l.fn.words;
  first_part : AreDrawn (g.R.Rng.stream l.fn.source) l.words 0 l.index;
  second_part : AreDrawn (g.R.Rng.stream l.fn.source) l.words l.quarter (l.quarter + l.index);
  third_part : AreDrawn (g.R.Rng.stream l.fn.source) l.words (2 * l.quarter) (2 * l.quarter + l.index);
  fourth_part : AreDrawn (g.R.Rng.stream l.fn.source) l.words (3 * l.quarter) (3 * l.quarter + l.index);
  first : g.R.Rng.stream l.first ≡ drawn_rest l.index (g.R.Rng.stream l.fn.source);
  second : g.R.Rng.stream l.second ≡ drawn_rest (l.quarter + l.index) (g.R.Rng.stream l.fn.source);
  third : g.R.Rng.stream l.third ≡ drawn_rest (2 * l.quarter + l.index) (g.R.Rng.stream l.fn.source);
  fourth : g.R.Rng.stream l.fourth ≡ drawn_rest (3 * l.quarter + l.index) (g.R.Rng.stream l.fn.source);
}
