use Rattle.watermarks.proofs.ActiveLemmas.{is_active-push, is_active-fold}
use Rattle.watermarks.proofs.laws.metrics_decide_in_turn.Goals as goal

pub returns : goal.returns
returns c = record { next = is_active-push; all = is_active-fold }
