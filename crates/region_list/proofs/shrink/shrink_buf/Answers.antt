use Rattle.std.proofs.Common.{◌≡◌, sym, subst, ap, ◌∙◌, arith}
use Rattle.region_list.specs.Sweep.{DifferBy}
use Rattle.region_list.specs.Shrink.{differences, least}
use Rattle.region_list.proofs.SweepLemmas.{least_differ, levels_fall}
use Rattle.region_list.proofs.shrink.shrink_buf.Goals as goal

pub join_pairs-requires-clause-low : goal.join_pairs-requires-clause-low
join_pairs-requires-clause-low c =
    let gs = c.args.ranges.now.list in
    let rows = c.levels.rows.rows in
    let level : c.least_difference-level.result ≡ least (differences gs rows) = c.least_difference-level.ensures.least in
    subst (λ n. DifferBy gs n rows) (sym level) (least_differ gs rows)

pub levels-smaller : goal.levels-smaller
levels-smaller c =
    let gs = c.args.ranges.now.list in
    let rows = c.levels.rows.rows in
    let level : c.least_difference-level.result ≡ least (differences gs rows) = c.least_difference-level.ensures.least in
    levels_fall gs c.args.to c.least_difference-level.result rows c.join_pairs.new.rows.rows c.least_difference-level.ensures.order (c.join_pairs.ensures.tiles 1 (c.levels.invariant.tiles 1 c.requires.tiling)) c.requires.enough (omega arith) (omega arith) level c.join_pairs.ensures.done
