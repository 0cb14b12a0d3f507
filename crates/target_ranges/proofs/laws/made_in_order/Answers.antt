use Rattle.target_ranges.proofs.Made.{made_each, made_in_order, made_wide, made_within}
use Rattle.target_ranges.proofs.laws.made_in_order.Goals as goal

pub returns : goal.returns
returns c = record { order = made_in_order; count = made_each; wide = made_wide; within = made_within }
