use Rattle.std.proofs.Common.{Ok, ap}
use Rattle.script_run.proofs.Handing.{left-end, left-on}
use Rattle.script_run.proofs.player.source.PlayerTextSource.fill.Goals as goal

pub returns-in-Piece-clause-on : goal.returns-in-Piece-clause-on
returns-in-Piece-clause-on g c =
    λ ok. left-on g.R.Rng.stream g.C.Callbacks.callbacks g.C.Callbacks.stands_for c.args.self.now c.fill.new.self c.args.out.now.items c.fill.new.out.items c.in_ok-fill.ensures.on

pub returns-in-Piece-clause-less : goal.returns-in-Piece-clause-less
returns-in-Piece-clause-less g c = λ ok. c.in_ok-fill.ensures.less (ap (λ f. Ok f) c.in-Piece.is)

pub returns-in_ok-write_last-in-End-clause-end : goal.returns-in_ok-write_last-in-End-clause-end
returns-in_ok-write_last-in-End-clause-end g c =
    λ ok. left-end g.R.Rng.stream g.C.Callbacks.callbacks g.C.Callbacks.stands_for c.args.self.now c.fill.new.self c.args.out.now.items c.fill.new.out.items c.in_ok-fill.ensures.on
    c.write_last.new.out.items (c.in_ok-fill.ensures.end (ap (λ f. Ok f) c.in-End.is)) c.in_ok-write_last-in-End.ensures.last
