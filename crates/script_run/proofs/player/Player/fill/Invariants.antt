use Rattle.std.proofs.Common.{◌<◌, ◌≤◌, vec_len}
use Rattle.text_io.specs.declared.output.TheConstants.{PIECE}
use Rattle.script_run.specs.Player.{GoesOnWith, left_moves}
use Rattle.script_run.proofs.player.Player.fill.Given as goal

-- the player went on so far, and has less left where it made a piece
abbrev pub invariant-moves : goal.invariant-moves
invariant-moves g l = record {
  on : GoesOnWith g.R.Rng.stream g.C.Callbacks.callbacks g.C.Callbacks.stands_for l.fn.self l.self l.fn.out.items l.out.items;
  most : left_moves l.self ≤ left_moves l.fn.self;
  less : vec_len l.fn.out < PIECE → PIECE ≤ vec_len l.out → left_moves l.self < left_moves l.fn.self;
}

abbrev pub decreases-moves : goal.decreases-moves
decreases-moves g l = left_moves l.self
