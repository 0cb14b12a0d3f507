-- What holds of the rows of new ranges.
use Rattle.std.proofs.Common.{ℕ, ◌≤◌, ◌<◌, List, length, arith}
use Rattle.std.specs.List.{AllByRecursion}
use Rattle.std.proofs.lemmas.List.{length-map}
use Rattle.damon_types.specs.declared.range.Range.{Range}
use Rattle.damon_types.specs.declared.row.Row.{Row}
use Rattle.damon_types.specs.Ranges.{InOrder}
use Rattle.damon_types.specs.Span.{span_of, spans}
use Rattle.region_list.specs.Tiling.{Tiling}
use Rattle.region_list.proofs.Lemmas.{counts_shrunk, length_shrunk, tiling_shrunk}
use Rattle.range_update.specs.Updated.{all_pieces, updated}
use Rattle.region_list.proofs.Lemmas.{tiling_some, tiling_weaker}
use Rattle.range_update.proofs.CountLemmas.{all_pieces_few}
use Rattle.range_update.proofs.SizeLemmas.{all_pieces_tiling}

tiling_of_pieces : (unit : ℕ) (rows : List Row) (gs : List Range) → 1 ≤ unit → AllByRecursion (λ g. unit ≤ g.pages) gs → Tiling 1 gs (spans (all_pieces unit rows gs))
tiling_of_pieces unit rows gs some wide = tiling_weaker 1 unit gs (spans (all_pieces unit rows gs)) some (all_pieces_tiling unit rows gs wide)

pub tiling_updated : (unit max : ℕ) (rows : List Row) (gs : List Range) → 1 ≤ unit → InOrder gs → length gs ≤ max → AllByRecursion (λ g. unit ≤ g.pages) gs → Tiling unit gs (spans (updated unit max rows gs))
tiling_updated unit max rows gs some order few wide = tiling_shrunk unit max gs (all_pieces unit rows gs) order (tiling_of_pieces unit rows gs some wide) few (all_pieces_tiling unit rows gs wide)

pub length_updated : (unit max : ℕ) (rows : List Row) (gs : List Range) → 1 ≤ unit → InOrder gs → length gs ≤ max → AllByRecursion (λ g. unit ≤ g.pages) gs → length (updated unit max rows gs) ≤ max
length_updated unit max rows gs some order few wide = length_shrunk max gs (all_pieces unit rows gs) order (tiling_of_pieces unit rows gs some wide) few

pub some_updated : (unit max : ℕ) (rows : List Row) (gs : List Range) → 1 ≤ unit → InOrder gs → length gs ≤ max → AllByRecursion (λ g. unit ≤ g.pages) gs → 0 < length gs → 0 < length (updated unit max rows gs)
some_updated unit max rows gs some order few wide any =
    let new = updated unit max rows gs in
    omega (arith, tiling_some unit gs (spans new) some any wide (tiling_updated unit max rows gs some order few wide), length-map new span_of)

pub counts_updated : (unit max most : ℕ) (rows : List Row) (gs : List Range) → AllByRecursion (λ r. r.count ≤ most) rows → AllByRecursion (λ r. r.count ≤ most) (updated unit max rows gs)
counts_updated unit max most rows gs all = counts_shrunk max most gs (all_pieces unit rows gs) (all_pieces_few most unit rows gs all)
