use Rattle.std.proofs.Common.{arith}
use Rattle.damon_live.proofs.rest.make_rest.Goals as goal

pub returns : goal.returns
returns g c = record {
  idle = c.make_calls.ensures.idle;
  passes = omega (arith, c.make_passes.ensures.all, c.make_calls.ensures.made);
  calls = c.make_calls.ensures.all;
}
