use Rattle.region_merge.proofs.MergedLemmas.{tiling_merged, length_merged, some_merged, counts_merged}
use Rattle.region_merge.proofs.laws.merged_rows_are_kept.Goals as goal

pub returns : goal.returns
returns c = record { tiles = tiling_merged; fewer = length_merged; some_rows = some_merged; counts = counts_merged }
