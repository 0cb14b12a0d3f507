use Rattle.std.proofs.Common.{◌<◌, length, refl, ap, subst, arith}
use Rattle.std.proofs.lemmas.Option.{slice_get_read}
use Rattle.region_list.specs.Regions.{RegionList, IsRegionList}
use Rattle.region_list.proofs.TilingLemmas.{row_size, row_end}
use Rattle.region_list.proofs.regions.Regions.row.Goals as goal

pub returns-clause-size : goal.returns-clause-size
returns-clause-size c =
    let rows = c.self.inside.rows.rows in
    let here : c.args.index < length rows = omega (arith, c.requires, ap (λ (r : RegionList). length r.rows) c.self.view_is) in
    let is = c.get.ensures in
    omega (arith, row_size _ _ rows c.args.index _ c.self.invariant.0.tiling is, ap (λ (r : RegionList). r.unit) c.self.view_is)

pub returns-clause-some : goal.returns-clause-some
returns-clause-some c = omega (arith, returns-clause-size c, c.self.invariant.0.unit, ap (λ (r : RegionList). r.unit) c.self.view_is)

pub returns-clause-end : goal.returns-clause-end
returns-clause-end c =
    let rows = c.self.inside.rows.rows in
    let here : c.args.index < length rows = omega (arith, c.requires, ap (λ (r : RegionList). length r.rows) c.self.view_is) in
    let is = c.get.ensures in
    row_end _ _ rows c.args.index _ c.self.invariant.0.order c.self.invariant.0.tiling is

pub returns-clause-kept : goal.returns-clause-kept
returns-clause-kept c = subst IsRegionList c.self.view_is c.self.invariant.0
