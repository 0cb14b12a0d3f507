use Rattle.std.proofs.Common.{◌≡◌, ◌≤◌, ℕ, List, true}
use Rattle.script_run.specs.Parts.{is_done}
use Rattle.script_run.specs.Player.{GoesOnWith, left_moves}
use Rattle.script_run.proofs.player.Player.touch_on.Given as goal

abbrev pub invariant-touches : goal.invariant-touches
invariant-touches g l = record {
  on : (text : List ℕ) → GoesOnWith g.R.Rng.stream g.C.Callbacks.callbacks g.C.Callbacks.stands_for l.fn.self l.self text text;
  done : is_done l.self.part l.self.world.monitor.core.phase ≡ true;
  most : left_moves l.self ≤ left_moves l.fn.self;
}

abbrev pub decreases-touches : goal.decreases-touches
decreases-touches g l = left_moves l.self
