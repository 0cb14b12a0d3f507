use Rattle.std.proofs.Common.{◌≡◌, []}
use Rattle.damon_types.specs.Calls.{EndsAtFault}
use Rattle.text_io.proofs.Pumping.{IsLeft}
use Rattle.text_io.proofs.source.pump.Given as goal

-- the sink took what is no longer left of the text, and the piece is empty
abbrev pub invariant-pieces : goal.invariant-pieces
invariant-pieces g l = record {
  said : IsLeft (g.T.TextSource.left l.fn.source) (g.K.Sink.taken l.fn.sink) (g.T.TextSource.left l.source) (g.K.Sink.taken l.sink);
  empty : l.piece.items ≡ [];
  quiet : EndsAtFault ⊥ (g.K.Sink.calls l.fn.sink) (g.K.Sink.calls l.sink);
}

abbrev pub decreases-pieces : goal.decreases-pieces
decreases-pieces g l = g.T.TextSource.steps l.source
