use Rattle.damon_types.specs.Span.{spans}
use Rattle.region_list.proofs.Lemmas.{tiling_weaker}
use Rattle.range_update.proofs.OrderLemmas.{rows_in_order}
use Rattle.range_update.proofs.ranges.update.Goals as goal

pub cut_ranges-requires-clause-order : goal.cut_ranges-requires-clause-order
cut_ranges-requires-clause-order c =
    let gs = c.args.regions.now.ranges in
    let rows = c.args.regions.now.rows in
    rw c.rows.ensures.rows (rows_in_order gs rows c.rows.ensures.kept.order (tiling_weaker 1 c.args.regions.now.unit gs (spans rows) c.rows.ensures.kept.unit c.rows.ensures.kept.tiling))

pub cut_ranges-requires-clause-wide : goal.cut_ranges-requires-clause-wide
cut_ranges-requires-clause-wide c = rw c.unit.ensures c.requires.wide

pub shrink_rows-requires-clause-tiling : goal.shrink_rows-requires-clause-tiling
shrink_rows-requires-clause-tiling c =
    let gs = c.args.ranges.now.list in
    let made = c.cut_ranges.new.made.rows in
    tiling_weaker 1 c.unit.result gs (spans made) (rw c.unit.ensures c.rows.ensures.kept.unit) c.cut_ranges.ensures.tiling
