use Rattle.region_list.proofs.TilingLemmas.{tiling_weaker, tiling_ascends}
use Rattle.region_list.proofs.regions.Regions.find.Goals as goal

pub find_row-requires : goal.find_row-requires
find_row-requires c =
    let kept = c.self.invariant.0 in
    record { ascending = tiling_ascends 0 0 _ _ kept.order (tiling_weaker 1 _ _ _ kept.unit kept.tiling) }
