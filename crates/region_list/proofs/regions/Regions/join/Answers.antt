use Rattle.std.proofs.Common.{◌≡◌, suc, ◌+◌, true, List, sym, ap, subst, ◌∙◌, add-one, arith}
use Rattle.std.proofs.lemmas.Option.{get_or_from_slice_get}
use Rattle.damon_types.specs.declared.row.Row.{Row}
use Rattle.damon_types.specs.Span.{spans}
use Rattle.region_list.specs.Regions.{RegionList}
use Rattle.region_list.specs.Rows.{no_row, row_at}
use Rattle.region_list.specs.Shrink.{in_one_range}
use Rattle.region_list.specs.Tiling.{Tiling}
use Rattle.region_list.proofs.IndexLemmas.{joined_is, pages_joined, tiles_joined}
use Rattle.region_list.proofs.regions.Regions.join.Goals as goal

abbrev with_rows : RegionList → List Row → RegionList
with_rows r rs = record r { rows = rs }

pub join_rows-joined-requires-clause-few : goal.join_rows-joined-requires-clause-few
join_rows-joined-requires-clause-few c =
    let r = c.args.self.now in
    let i = c.args.index in
    let first : row_at r.rows i ≡ c.row-first.result = get_or_from_slice_get r.rows i c.row-first.result no_row c.row-first.ensures.row in
    let second : row_at r.rows (i + 1) ≡ c.row-second.result = get_or_from_slice_get r.rows (i + 1) c.row-second.result no_row c.row-second.ensures.row in
    let range : in_one_range r.ranges (row_at r.rows i) (row_at r.rows (suc i)) ≡ true = subst (λ n. in_one_range r.ranges (row_at r.rows i) (row_at r.rows n) ≡ true) (add-one i) c.requires.range in
    let pages = pages_joined r.unit i r.ranges r.rows c.row-first.ensures.kept.unit c.row-first.ensures.kept.order c.row-first.ensures.kept.tiling c.requires.pair range in
    omega (arith, pages, ap (λ (x : Row). x.pages) first, ap (λ (x : Row). x.pages) second, ap (λ n. (row_at r.rows n).pages) (add-one i))

pub put_one-requires-clause-tiling : goal.put_one-requires-clause-tiling
put_one-requires-clause-tiling c =
    let r = c.args.self.now in
    let i = c.args.index in
    let first : row_at r.rows i ≡ c.row-first.result = get_or_from_slice_get r.rows i c.row-first.result no_row c.row-first.ensures.row in
    let second : row_at r.rows (i + 1) ≡ c.row-second.result = get_or_from_slice_get r.rows (i + 1) c.row-second.result no_row c.row-second.ensures.row in
    let range : in_one_range r.ranges (row_at r.rows i) (row_at r.rows (suc i)) ≡ true = subst (λ n. in_one_range r.ranges (row_at r.rows i) (row_at r.rows n) ≡ true) (add-one i) c.requires.range in
    subst (λ rs. Tiling r.unit r.ranges (spans rs)) (joined_is i r.rows c.row-first.result c.row-second.result c.join_rows-joined.result c.requires.pair first second c.join_rows-joined.ensures)
    (tiles_joined r.unit i r.ranges r.rows c.row-first.ensures.kept.unit c.row-first.ensures.kept.order c.row-first.ensures.kept.tiling c.requires.pair range)

pub returns : goal.returns
returns c =
    let r = c.args.self.now in
    let i = c.args.index in
    let first : row_at r.rows i ≡ c.row-first.result = get_or_from_slice_get r.rows i c.row-first.result no_row c.row-first.ensures.row in
    let second : row_at r.rows (i + 1) ≡ c.row-second.result = get_or_from_slice_get r.rows (i + 1) c.row-second.result no_row c.row-second.ensures.row in
    c.put_one.ensures ∙ ap (with_rows r) (sym (joined_is i r.rows c.row-first.result c.row-second.result c.join_rows-joined.result c.requires.pair first second c.join_rows-joined.ensures))
