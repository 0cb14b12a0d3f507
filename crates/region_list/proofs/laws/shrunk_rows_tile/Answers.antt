use Rattle.region_list.proofs.ShrinkLemmas.{length_shrunk, tiling_shrunk}
use Rattle.region_list.proofs.laws.shrunk_rows_tile.Goals as goal

pub returns : goal.returns
returns c = record { few = length_shrunk; tiling = tiling_shrunk }
