use Rattle.std.proofs.Common.{◌≡◌, ℕ, ◌+◌, ◌<◌, List, ◌∷◌, ◌++◌, length, take, drop, sym, ap, subst, ◌∙◌, arith}
use Rattle.std.specs.Prelude.{slice_set}
use Rattle.damon_types.specs.declared.row.Row.{Row}
use Rattle.damon_types.specs.Span.{spans}
use Rattle.region_list.specs.Regions.{RegionList}
use Rattle.region_list.specs.Rows.{RowList}
use Rattle.region_list.specs.Tiling.{Tiling}
use Rattle.region_list.proofs.IndexLemmas.{fewer, set_removed}
use Rattle.region_list.proofs.regions.Regions.put_one.Goals as goal

abbrev with_one : ℕ → Row → RegionList → RegionList
with_one i x r = record r { rows = take i r.rows ++ x ∷ drop (i + 2) r.rows }

-- a row taken out and another one put in the place of the next
put : (i : ℕ) (x : Row) (old gone new : RowList) → i + 1 < length old.rows → gone ≡ record old { rows = take i old.rows ++ drop (i + 1) old.rows } → new ≡ record gone { rows = slice_set gone.rows i x } → new ≡ record old { rows = take i old.rows ++ x ∷ drop (i + 2) old.rows }
put i x old gone new within removed is =
    is ∙ ap (λ (b : RowList). record b { rows = slice_set b.rows i x }) removed ∙ ap (λ rs. record old { rows = rs }) (set_removed i old.rows x within)

pub invariant_of-self : goal.invariant_of-self
invariant_of-self c =
    let kept = c.self.invariant.0 in
    let rows = c.self.inside.rows.rows in
    let i = c.args.index in
    let x = c.args.row in
    let within : i + 1 < length rows = omega (arith, c.requires.pair, ap (λ (v : RegionList). length v.rows) c.self.view_is) in
    let is = put i x c.self.inside.rows c.remove.new.self c.set.new.self within c.remove.ensures c.set.ensures.set in
    let new : c.set.new.self.rows ≡ take i rows ++ x ∷ drop (i + 2) rows = ap (λ (b : RowList). b.rows) is in
    let tiling = subst (λ (v : RegionList). Tiling v.unit v.ranges (spans (take i v.rows ++ x ∷ drop (i + 2) v.rows))) (sym c.self.view_is) c.requires.tiling in (
      record {
        order = kept.order;
        tiling = subst (λ rs. Tiling c.self.inside.unit c.self.inside.ranges.list (spans rs)) (sym new) tiling;
        unit = kept.unit;
        few = omega (arith, fewer i rows x within, ap (λ (rs : List Row). length rs) new, kept.few);
        least = kept.least;
        most = kept.most;
        small = kept.small;
      },
      c.self.invariant.1,
      ap (λ (b : RowList). b.cap) is ∙ c.self.invariant.2,
      c.self.invariant.3,
    )

pub returns : goal.returns
returns c =
    let rows = c.self.inside.rows.rows in
    let i = c.args.index in
    let x = c.args.row in
    let old : RegionList = record { ranges = c.self.inside.ranges.list; rows = rows; unit = c.self.inside.unit; cap = c.self.inside.cap; max = c.self.inside.max } in
    let within : i + 1 < length rows = omega (arith, c.requires.pair, ap (λ (v : RegionList). length v.rows) c.self.view_is) in
    let is = put i x c.self.inside.rows c.remove.new.self c.set.new.self within c.remove.ensures c.set.ensures.set in
    ap (λ (b : RowList). record old { rows = b.rows }) is ∙ ap (with_one i x) c.self.view_is
