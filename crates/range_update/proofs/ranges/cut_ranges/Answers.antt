use Rattle.std.proofs.Common.{◌+◌, ◌++◌, length, length-append, append_assoc, sym, ap, ◌∙◌, subst, drop, arith}
use Rattle.std.proofs.lemmas.List.{append-nil, drop_all}
use Rattle.damon_types.specs.Ranges.{end_of}
use Rattle.damon_types.specs.Span.{spans}
use Rattle.damon_types.proofs.Lemmas.{end_at}
use Rattle.region_list.specs.Rows.{RowList}
use Rattle.region_list.specs.Tiling.{Tiling}
use Rattle.range_update.specs.Updated.{range_pieces, all_pieces}
use Rattle.region_list.proofs.Lemmas.{ordered_after}
use Rattle.range_update.proofs.RangeLemmas.{drop_next}
use Rattle.range_update.proofs.OrderLemmas.{IsReady, ready_start, ready_next}
use Rattle.range_update.proofs.SizeLemmas.{all_pieces_few, all_pieces_tiling}
use Rattle.range_update.proofs.ranges.cut_ranges.Goals as goal

pub each-init : goal.each-init
each-init c = record {
  within = omega arith;
  ready = ready_start c.args.rows.now.rows c.args.ranges.now.list;
  cap = ap (λ (b : RowList). b.cap) c.clear.ensures;
  so_far = ap (λ (b : RowList). b.rows ++ all_pieces c.args.unit c.args.rows.now.rows c.args.ranges.now.list) c.clear.ensures;
}

pub cut_range-from-requires-clause-past : goal.cut_range-from-requires-clause-past
cut_range-from-requires-clause-past c =
    let gs = c.args.ranges.now.list in
    let next = drop_next gs c.each.index c.get.result (omega (arith, c.len-index-end.ensures.len)) c.get.ensures in
    subst (λ hs. IsReady c.args.rows.now.rows c.each.from hs) next c.each.invariant.ready

pub cut_range-from-requires-clause-end : goal.cut_range-from-requires-clause-end
cut_range-from-requires-clause-end c = end_at 0 0 c.args.ranges.now.list c.each.index c.get.result c.len-index-end.ensures.order c.get.ensures

pub cut_range-from-requires-clause-room : goal.cut_range-from-requires-clause-room
cut_range-from-requires-clause-room c =
    let gs = c.args.ranges.now.list in
    let rows = c.args.rows.now.rows in
    let g = c.get.result in
    let i = c.each.index in
    let next = drop_next gs i g (omega (arith, c.len-index-end.ensures.len)) c.get.ensures in
    omega (
      arith,
      ap length c.each.invariant.so_far,
      ap (λ hs. length (all_pieces c.args.unit rows hs)) next,
      length-append c.each.made.rows (all_pieces c.args.unit rows (drop i gs)),
      length-append (range_pieces c.args.unit rows g) (all_pieces c.args.unit rows (drop (i + 1) gs)),
      all_pieces_few c.args.unit rows gs c.requires.unit c.len-index-end.ensures.order,
      c.requires.room,
      c.each.invariant.cap,
    )

pub each-preserved : goal.each-preserved
each-preserved c =
    let gs = c.args.ranges.now.list in
    let rows = c.args.rows.now.rows in
    let g = c.get.result in
    let i = c.each.index in
    let rest = all_pieces c.args.unit rows (drop (i + 1) gs) in
    let next = drop_next gs i g (omega (arith, c.len-index-end.ensures.len)) c.get.ensures in
    record {
      within = c.cut_range-from.ensures.within;
      ready = ready_next rows c.cut_range-from.result g.target (end_of g) (drop (i + 1) gs) (ordered_after 0 0 gs i g (drop (i + 1) gs) c.len-index-end.ensures.order next) c.cut_range-from.ensures.past;
      cap = ap (λ (b : RowList). b.cap) c.cut_range-from.ensures.made ∙ c.each.invariant.cap;
      so_far =
          ap (λ (b : RowList). b.rows ++ rest) c.cut_range-from.ensures.made
          ∙ append_assoc c.each.made.rows (range_pieces c.args.unit rows g) rest
          ∙ ap (λ hs. c.each.made.rows ++ all_pieces c.args.unit rows hs) (sym next)
          ∙ c.each.invariant.so_far;
    }

pub returns-clause-tiling : goal.returns-clause-tiling
returns-clause-tiling c =
    let gs = c.args.ranges.now.list in
    let rows = c.args.rows.now.rows in
    let none = ap (λ hs. all_pieces c.args.unit rows hs) (drop_all c.each.index gs (omega (arith, c.each-test.false, c.len-index-end.ensures.len))) in
    let all = sym (append-nil c.each.made.rows) ∙ ap (λ rs. c.each.made.rows ++ rs) (sym none) ∙ c.each.invariant.so_far in
    subst (λ rs. Tiling c.args.unit gs (spans rs)) (sym all) (all_pieces_tiling c.args.unit rows gs c.requires.wide)
