use Rattle.std.proofs.Common.{subst}
use Rattle.damon_types.specs.Span.{spans}
use Rattle.region_list.specs.Regions.{RegionList}
use Rattle.region_list.specs.Tiles.{Tiles}
use Rattle.region_list.proofs.TilingLemmas.{tiles}
use Rattle.region_list.proofs.regions.Regions.len.Goals as goal

pub returns-clause-tiles : goal.returns-clause-tiles
returns-clause-tiles c =
    let kept = c.self.invariant.0 in
    subst (λ (r : RegionList). Tiles r.ranges (spans r.rows) r.unit) c.self.view_is (tiles _ _ _ kept.unit kept.order kept.tiling)
