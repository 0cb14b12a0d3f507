use Rattle.std.proofs.Common.{◌≡◌, [], length}
use Rattle.damon_types.specs.Calls.{EndsAtFault}
use Rattle.text_io.proofs.Known.{Written}
use Rattle.text_io.proofs.output.write_all.Given as goal

abbrev pub invariant-pieces : goal.invariant-pieces
invariant-pieces g l = record {
  written : Written (g.K.Sink.taken l.fn.sink) l.text (g.K.Sink.taken l.sink) l.rest;
  unused : l.text ≡ [] → l.sink ≡ l.fn.sink;
  quiet : EndsAtFault ⊥ (g.K.Sink.calls l.fn.sink) (g.K.Sink.calls l.sink);
}

abbrev pub decreases-pieces : goal.decreases-pieces
decreases-pieces g l = length l.rest
