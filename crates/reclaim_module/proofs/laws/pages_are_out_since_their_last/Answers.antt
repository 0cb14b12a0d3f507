use Rattle.reclaim_module.proofs.Lasting.{out_by_last, since_last}
use Rattle.reclaim_module.proofs.laws.pages_are_out_since_their_last.Goals as goal

pub returns : goal.returns
returns c = record { since = since_last; out = out_by_last }
