use Rattle.script_run.specs.Played.{BeginsWith}
use Rattle.script_run.specs.Player.{left_moves}
use Rattle.script_run.proofs.player.Player.play_all.Given as goal

-- the events so far are the first of the next command
abbrev pub invariant-moves : goal.invariant-moves
invariant-moves g l = BeginsWith g.R.Rng.stream g.C.Callbacks.callbacks g.C.Callbacks.stands_for l.fn.self l.self l.fn.out.items l.out.items

abbrev pub decreases-moves : goal.decreases-moves
decreases-moves g l = left_moves l.self
