use Rattle.text_io.proofs.Lemmas.{EndsAtFault-none}
use Rattle.damon_app.proofs.pieces.hand_over.Goals as goal

pub returns-then-len-lt-PIECE-clause-writes : goal.returns-then-len-lt-PIECE-clause-writes
returns-then-len-lt-PIECE-clause-writes g c = EndsAtFault-none (g.K.Sink.calls c.args.sink.now) (λ e. cc e)
