use Rattle.std.proofs.Common.{◌≡◌, ℕ, List, []}
use Rattle.rand_core.specs.Steps.{stream_of, steps_u32}
use Rattle.rand_pcg.specs.Pcg.{pcg32}
use Rattle.damon_control.specs.ScriptView.{said_by}
use Rattle.snapshot_print.specs.declared.form.Form.TheVariants.{Text}
use Rattle.script_run.specs.Player.{left_moves}
use Rattle.script_run.specs.Way.{IsOnItsWay}
use Rattle.script_run.proofs.to_end.play_to_end.Given as goal

-- the player is on its way through the script, and no text is kept
abbrev pub invariant-pieces : goal.invariant-pieces
invariant-pieces l = record {
  way : (written : List ℕ) × IsOnItsWay (stream_of (steps_u32 pcg32)) (said_by l.fn.script) Text l.player written;
  empty : l.unread.items ≡ [];
}

abbrev pub decreases-pieces : goal.decreases-pieces
decreases-pieces l = left_moves l.player
