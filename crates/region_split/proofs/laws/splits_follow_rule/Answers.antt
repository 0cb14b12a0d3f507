use Rattle.region_split.proofs.RowLemmas.{split_row_by_row, one_split}
use Rattle.region_split.proofs.laws.splits_follow_rule.Goals as goal

pub returns : goal.returns
returns c = record { some = split_row_by_row; one = one_split }
