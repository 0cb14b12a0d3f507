use Rattle.std.proofs.Common.{◌≡◌, ℕ, ◌+◌, ◌-◌, ◌≤◌, sym, ap, subst, ◌∙◌, arith}
use Rattle.std.proofs.lemmas.Option.{get_or_from_slice_get}
use Rattle.damon_types.specs.declared.row.Row.{Row}
use Rattle.damon_types.specs.Span.{spans}
use Rattle.region_list.specs.Regions.{RegionList}
use Rattle.region_list.specs.Rows.{cut_after, no_row, row_at, with_two}
use Rattle.region_list.specs.Tiling.{Tiling}
use Rattle.region_list.proofs.RefineLemmas.{cut_refined, refined_tiling}
use Rattle.region_list.proofs.regions.Regions.cut.Goals as goal

-- the region list with the row of this index cut as if it were this row
abbrev with_cut : RegionList → ℕ → ℕ → Row → RegionList
with_cut r i at x = record r { rows = with_two r.rows i (record x { pages = at }) (record x { start = x.start + at; pages = x.pages - at }) }

pub overflow_sub-second : goal.overflow_sub-second
overflow_sub-second c =
    let r = c.args.self.now in
    let is : row_at r.rows c.args.index ≡ c.row-row.result = get_or_from_slice_get r.rows c.args.index c.row-row.result no_row c.row-row.ensures.row in
    omega (arith, c.requires.second, c.row-row.ensures.kept.unit, ap (λ (x : Row). x.pages) is)

pub overflow_add-second : goal.overflow_add-second
overflow_add-second c =
    let r = c.args.self.now in
    let is : row_at r.rows c.args.index ≡ c.row-row.result = get_or_from_slice_get r.rows c.args.index c.row-row.result no_row c.row-row.ensures.row in
    omega (arith, c.requires.second, c.row-row.ensures.kept.unit, c.row-row.ensures.end, ap (λ (x : Row). x.pages) is)

pub put_two-requires-clause-tiling : goal.put_two-requires-clause-tiling
put_two-requires-clause-tiling c =
    let r = c.args.self.now in
    let i = c.args.index in
    let at = c.args.pages in
    let is : row_at r.rows i ≡ c.row-row.result = get_or_from_slice_get r.rows i c.row-row.result no_row c.row-row.ensures.row in
    let low : at ≤ (row_at r.rows i).pages = omega (arith, c.requires.second, c.row-row.ensures.kept.unit) in
    subst (λ x. Tiling r.unit r.ranges (spans (with_cut r i at x).rows)) is
    (refined_tiling r.unit r.ranges (spans r.rows) (spans (cut_after r.rows i at)) c.row-row.ensures.kept.tiling
    (cut_refined r.unit i at r.rows c.requires.within c.requires.first c.requires.second low))

pub returns : goal.returns
returns c =
    let r = c.args.self.now in
    let is : row_at r.rows c.args.index ≡ c.row-row.result = get_or_from_slice_get r.rows c.args.index c.row-row.result no_row c.row-row.ensures.row in
    let cut : with_cut r c.args.index c.args.pages c.row-row.result ≡ with_cut r c.args.index c.args.pages (row_at r.rows c.args.index) =
    ap (with_cut r c.args.index c.args.pages) (sym is) in
    c.put_two.ensures ∙ cut
