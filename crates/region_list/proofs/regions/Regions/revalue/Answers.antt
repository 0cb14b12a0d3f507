use Rattle.std.proofs.Common.{◌≡◌, ◌≤◌, List, length, sym, subst, ap, ◌∙◌}
use Rattle.std.proofs.lemmas.List.{length-map}
use Rattle.damon_types.specs.declared.row.Row.{Row}
use Rattle.damon_types.specs.Span.{Span, span_of, spans}
use Rattle.region_list.specs.Regions.{RegionList}
use Rattle.region_list.specs.Rows.{RowList}
use Rattle.region_list.specs.Tiling.{Tiling}
use Rattle.region_list.proofs.regions.Regions.revalue.Goals as goal

pub invariant_of-self : goal.invariant_of-self
invariant_of-self g c =
    let kept = c.self.invariant.0 in
    let rows = c.self.inside.rows.rows in
    let view : rows ≡ c.args.self.now.rows = ap (λ (r : RegionList). r.rows) c.self.view_is in
    let others = g.P.ValuePass.values_of c.args.pass.now rows in
    let is = ap (λ (b : RowList). b.rows) c.revalue.ensures in
    let same : spans others ≡ spans rows = subst (λ (rs : List Row). spans (g.P.ValuePass.values_of c.args.pass.now rs) ≡ spans rs) (sym view) c.requires.spans in
    let many : length others ≡ length rows = sym (length-map others span_of) ∙ ap (λ (ss : List Span). length ss) same ∙ length-map rows span_of in (
      record {
        order = kept.order;
        tiling = subst (λ rs. Tiling c.self.inside.unit c.self.inside.ranges.list (spans rs)) (sym is) (subst (λ ss. Tiling c.self.inside.unit c.self.inside.ranges.list ss) (sym same) kept.tiling);
        unit = kept.unit;
        few = subst (λ rs. length rs ≤ c.self.inside.max) (sym is) (subst (λ n. n ≤ c.self.inside.max) (sym many) kept.few);
        least = kept.least;
        most = kept.most;
        small = kept.small;
      },
      c.self.invariant.1,
      ap (λ (b : RowList). b.cap) c.revalue.ensures ∙ c.self.invariant.2,
      c.self.invariant.3,
    )
