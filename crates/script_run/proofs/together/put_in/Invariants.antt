use Rattle.std.proofs.Common.{◌≡◌, length}
use Rattle.snapshot_print.specs.Forms.{writing_of}
use Rattle.script_run.specs.Kept.{StandSomewhere}
use Rattle.script_run.proofs.Making.{PutsSoFar}
use Rattle.script_run.proofs.together.put_in.Given as goal

-- some of the commits were made, and their lines are there
abbrev pub invariant-puts : goal.invariant-puts
invariant-puts g l = record {
  so_far : PutsSoFar g.R.Rng.stream g.C.Callbacks.stands_for g.C.Callbacks.pending l.fn.world l.world l.fn.callbacks l.callbacks (writing_of l.fn.printer.form) l.fn.out.items l.out.items;
  somewhere : StandSomewhere g.R.Rng.stream g.C.Callbacks.stands_for l.world l.callbacks;
  ticks : l.world.monitor.core.ticks ≡ l.fn.world.monitor.core.ticks;
  space : l.world.monitor.core.space ≡ l.fn.world.monitor.core.space;
}

abbrev pub decreases-puts : goal.decreases-puts
decreases-puts g l = length (g.C.Callbacks.pending l.callbacks)
