use Rattle.std.proofs.Common.{◌≤◌, ap, subst, ◌∙◌}
use Rattle.damon_types.specs.Span.{spans}
use Rattle.region_list.specs.Regions.{RegionList}
use Rattle.region_list.specs.Tiles.{Tiles}
use Rattle.damon_core.specs.Kept.{RowsLieIn, SamplingView}
use Rattle.damon_core.specs.Stands.{MonitorView}
use Rattle.damon_core.proofs.RowFacts.{rows_in}
use Rattle.damon_core.proofs.monitor.Monitor.rows.Goals as goal

pub returns-clause-in_space : goal.returns-clause-in_space
returns-clause-in_space c =
    let i = c.self.inside in
    let r = i.sampling.value.regions in
    let same = c.regions-regions.ensures.regions ∙ ap (λ (s : SamplingView). s.regions) c.deref.ensures in
    let unit = subst (λ (x : RegionList). 1 ≤ x.unit) same c.len-rows.ensures.unit in
    let tiles = subst (λ (x : RegionList). Tiles x.ranges (spans x.rows) x.unit) same c.len-rows.ensures.tiles in
    subst (λ (m : MonitorView). RowsLieIn m.core.space m.core.regions.rows) c.self.view_is (rows_in i.space r.ranges r.unit r.rows unit c.self.invariant.ranges_in tiles)
