use Rattle.std.proofs.Common.{length}
use Rattle.damon_types.specs.Calls.{EndsAtFault}
use Rattle.text_io.proofs.Known.{Written}
use Rattle.text_io.proofs.output.write_piece.Given as goal

abbrev pub invariant-writes : goal.invariant-writes
invariant-writes g l = record {
  written : Written (g.K.Sink.taken l.fn.sink) l.piece (g.K.Sink.taken l.sink) l.rest;
  quiet : EndsAtFault ⊥ (g.K.Sink.calls l.fn.sink) (g.K.Sink.calls l.sink);
}

abbrev pub decreases-writes : goal.decreases-writes
decreases-writes g l = length l.rest
