use Rattle.std.proofs.Common.{◌≡◌, ℕ, ◌<◌, length}
use Rattle.std.specs.Prelude.{slice_index}
use Rattle.rand_core.specs.Stream.{Stream}
use Rattle.sampler.specs.Draws.{drawn_rest}
use Rattle.damon_world.specs.Drawing.{AreDrawn}
use Rattle.damon_world.proofs.drawing.draw_from.Given as goal

abbrev pub invariant-loop-place : goal.invariant-loop-place
invariant-loop-place g l = record {
  len : length l.words ≡ length l.fn.words;
  kept : (p : ℕ) → p < l.from → slice_index l.words p ≡ slice_index l.fn.words p;
  words : (s : Stream) → g.R.Rng.stream l.fn.source ≡ drawn_rest l.from s → AreDrawn s l.words l.from l.place;
  rest : (s : Stream) → g.R.Rng.stream l.fn.source ≡ drawn_rest l.from s → g.R.Rng.stream l.source ≡ drawn_rest l.place s;
}
