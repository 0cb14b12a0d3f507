use Rattle.std.proofs.Common.{List}
use Rattle.damon_core.specs.State.{State}
use Rattle.journal_check.specs.Replayer.{Leads}
use Rattle.damon_types.specs.Calls.{EndsAtFault}
use Rattle.damon_app.proofs.Heating.{AreWritten}
use Rattle.damon_app.proofs.heat.write_tables.Given as goal

-- the sink took the tables of the states that are done, but for those in the piece
abbrev pub invariant-reports : goal.invariant-reports
invariant-reports g l = record {
  told : (states : List State) (last : State) → Leads states last l.fn.replayer → AreWritten g.row.N states last l.replayer l.sizes l.piece.items (g.K.Sink.taken l.fn.sink) (g.K.Sink.taken l.sink);
  quiet : EndsAtFault ⊥ (g.K.Sink.calls l.fn.sink) (g.K.Sink.calls l.sink);
}

abbrev pub decreases-reports : goal.decreases-reports
decreases-reports g l = l.replayer.left
