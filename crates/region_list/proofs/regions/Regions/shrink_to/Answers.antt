use Rattle.region_list.proofs.TilingLemmas.{tiling_weaker}
use Rattle.region_list.proofs.regions.Regions.shrink_to.Goals as goal

pub shrink_buf-requires-clause-tiling : goal.shrink_buf-requires-clause-tiling
shrink_buf-requires-clause-tiling c = tiling_weaker 1 _ _ _ c.self.invariant.0.unit c.self.invariant.0.tiling
