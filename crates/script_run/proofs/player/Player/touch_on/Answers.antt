use Rattle.std.proofs.Common.{arith}
use Rattle.script_run.proofs.Moves.{on-none, on-then}
use Rattle.script_run.proofs.player.Player.touch_on.Goals as goal

pub touches-init : goal.touches-init
touches-init g c = record {
  on = λ text. on-none g.R.Rng.stream g.C.Callbacks.callbacks g.C.Callbacks.stands_for c.args.self.now text;
  done = c.requires;
  most = omega arith;
}

pub touches-preserved : goal.touches-preserved
touches-preserved g c = record {
  on = λ text. on-then g.R.Rng.stream g.C.Callbacks.callbacks g.C.Callbacks.stands_for c.args.self.now c.touches.self c.touch_next.new.self text text text (c.touches.invariant.on text) (c.touch_next.ensures.on text);
  done = c.touch_next.ensures.done;
  most = omega (arith, c.touches.invariant.most, c.touch_next.ensures.less c.touches-test.true);
}
