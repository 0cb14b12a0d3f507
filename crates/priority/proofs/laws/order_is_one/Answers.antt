use Rattle.priority.proofs.RankLemmas.{in_order_is, order_of, same_of, shares_of_order}
use Rattle.priority.proofs.laws.order_is_one.Goals as goal

pub returns : goal.returns
returns c = record { order = order_of; same = same_of; one = in_order_is; shares = shares_of_order }
