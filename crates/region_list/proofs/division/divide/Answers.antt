use Rattle.std.proofs.Common.{◌≡◌, ◌≤◌, ◌<◌, ◌+◌, ◌/◌, ◌++◌, length, length-append, drop, arith, ap, ◌∙◌, sym, subst, append_assoc}
use Rattle.std.specs.List.{flat_map}
use Rattle.std.proofs.lemmas.List.{append-nil, drop_all}
use Rattle.damon_types.specs.Ranges.{page_total, end_of}
use Rattle.damon_types.specs.Span.{spans}
use Rattle.damon_types.proofs.Lemmas.{all_at, end_at}
use Rattle.region_list.specs.Rows.{RowList}
use Rattle.region_list.specs.Tiling.{Tiling}
use Rattle.region_list.specs.Division.{range_rows, rows_from}
use Rattle.region_list.proofs.DivisionLemmas.{drop_next, pages_within, divided_fits, divided_tiling, length-rows_from}
use Rattle.region_list.proofs.division.divide.Goals as goal

pub row_count-count-requires-clause-total : goal.row_count-count-requires-clause-total
row_count-count-requires-clause-total c = omega (arith, pages_within c.args.ranges.now.list c.loop-index.index c.get-range.result c.get-range.ensures, c.total-total.ensures.total)

pub row_count-count-requires-clause-wide : goal.row_count-count-requires-clause-wide
row_count-count-requires-clause-wide c = all_at (λ g. c.args.unit ≤ g.pages) c.args.ranges.now.list c.loop-index.index c.get-range.result c.requires.wide c.get-range.ensures

pub push_rows-requires-clause-end : goal.push_rows-requires-clause-end
push_rows-requires-clause-end c = end_at 0 0 c.args.ranges.now.list c.loop-index.index c.get-range.result c.total-total.ensures.order c.get-range.ensures

pub push_rows-requires-clause-room : goal.push_rows-requires-clause-room
push_rows-requires-clause-room c =
    let gs = c.args.ranges.now.list in
    let g = c.get-range.result in
    let f = range_rows c.args.unit c.args.min c.total-total.result in
    let next = ap (λ hs. flat_map f hs) (drop_next gs c.loop-index.index g (omega (arith, c.len-index-end.ensures.len)) c.get-range.ensures) in
    let some : 0 < page_total gs = omega (arith, pages_within gs c.loop-index.index g c.get-range.ensures, c.requires.unit, all_at (λ h. c.args.unit ≤ h.pages) gs c.loop-index.index g c.requires.wide c.get-range.ensures) in
    let here : length (f g) ≡ c.row_count-count.result = length-rows_from _ _ _ _ _ ∙ sym c.row_count-count.ensures.exact in
    omega (
      arith,
      ap length c.loop-index.invariant.so_far,
      ap length next,
      length-append c.loop-index.rows.rows (flat_map f (drop c.loop-index.index gs)),
      length-append (f g) (flat_map f (drop (c.loop-index.index + 1) gs)),
      here,
      divided_fits c.args.unit c.args.min gs some,
      c.requires.room,
      c.loop-index.invariant.cap,
    )

pub loop-index-preserved : goal.loop-index-preserved
loop-index-preserved c =
    let gs = c.args.ranges.now.list in
    let g = c.get-range.result in
    let f = range_rows c.args.unit c.args.min c.total-total.result in
    let rest = flat_map f (drop (c.loop-index.index + 1) gs) in
    let next = ap (λ hs. flat_map f hs) (drop_next gs c.loop-index.index g (omega (arith, c.len-index-end.ensures.len)) c.get-range.ensures) in
    record {
      cap = ap (λ (b : RowList). b.cap) c.push_rows.ensures ∙ c.loop-index.invariant.cap;
      so_far =
          ap (λ (b : RowList). b.rows ++ rest) c.push_rows.ensures
          ∙ ap (λ n. (c.loop-index.rows.rows ++ rows_from g.target (g.pages / n) (end_of g) n g.first) ++ rest) c.row_count-count.ensures.exact
          ∙ append_assoc c.loop-index.rows.rows (f g) rest
          ∙ ap (λ rs. c.loop-index.rows.rows ++ rs) (sym next)
          ∙ c.loop-index.invariant.so_far;
    }

pub returns-clause-tiling : goal.returns-clause-tiling
returns-clause-tiling c =
    let gs = c.args.ranges.now.list in
    let f = range_rows c.args.unit c.args.min c.total-total.result in
    let none = ap (λ hs. flat_map f hs) (drop_all c.loop-index.index gs (omega (arith, c.loop-index-test.false, c.len-index-end.ensures.len))) in
    let all = sym (append-nil c.loop-index.rows.rows) ∙ ap (λ rs. c.loop-index.rows.rows ++ rs) (sym none) ∙ c.loop-index.invariant.so_far in
    subst (λ rs. Tiling c.args.unit gs (spans rs)) (sym all) (divided_tiling c.args.unit c.args.min (page_total gs) gs c.requires.unit c.requires.wide)
