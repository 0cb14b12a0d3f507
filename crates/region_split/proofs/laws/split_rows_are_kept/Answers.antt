use Rattle.region_split.proofs.SplitLemmas.{tiling_split, length_split, some_split, counts_split}
use Rattle.region_split.proofs.laws.split_rows_are_kept.Goals as goal

pub returns : goal.returns
returns c = record { tiles = tiling_split; few = length_split; some = some_split; counts = counts_split }
