use Rattle.std.proofs.Common.{◌+◌, Some, subst, sym, ◌∙◌, arith}
use Rattle.region_list.proofs.ClosestLemmas.{Walk, walk_begin, walk_over, more_ranges, walk_on, walk_equal, walk_fits, walk_finds, seen_all}
use Rattle.region_list.proofs.shrink.closest.Goals as goal
use Rattle.region_list.proofs.shrink.closest.Goals.{then-row-end, else-row-end+else-difference-eq0}

pub rows-init : goal.rows-init
rows-init c = walk_begin c.args.ranges.now.list c.args.rows.now.rows c.end-end.result c.end-end.ensures.order c.requires.tiling (omega arith) c.end-end.ensures.end

pub overflow_add-row : goal.overflow_add-row
overflow_add-row c = rw c.at-row.ensures (omega (arith, walk_fits c.args.ranges.now.list c.args.rows.now.rows c.rows.range c.rows.index c.rows.end c.rows.best c.end-end.ensures.order (omega arith) c.rows.invariant))

pub overflow_add-range : goal.overflow_add-range
overflow_add-range c = omega (arith, more_ranges c.args.ranges.now.list c.args.rows.now.rows c.rows.range c.rows.index c.rows.end c.rows.best c.end-end.ensures.order (omega arith) c.rows.invariant (rw (sym c.at-row.ensures) c.if-row-end.true), c.end-end.ensures.few)

pub end-end-requires-then-row-end : goal.end-end-requires-then-row-end
end-end-requires-then-row-end c = more_ranges c.args.ranges.now.list c.args.rows.now.rows c.rows.range c.rows.index c.rows.end c.rows.best c.end-end.ensures.order (omega arith) c.rows.invariant (rw (sym c.at-row.ensures) c.if-row-end.true)

pub returns-then-difference-eq0-clause-first : goal.returns-then-difference-eq0-clause-first
returns-then-difference-eq0-clause-first c = sym (walk_equal c.args.ranges.now.list c.args.rows.now.rows c.rows.range c.rows.index c.rows.end c.rows.best c.end-end.ensures.order (omega arith) c.rows.invariant (λ same. absurd (c.if-row-end.false (rw c.at-row.ensures same))) (rw (sym c.at-row.ensures, sym c.at.ensures) (sym c.abs_diff-difference.ensures ∙ c.if-difference-eq0.true)))

pub rows-preserved : goal.rows-preserved
rows-preserved c =
    elim c.if-row-end.branch [
      | then-row-end w ↦
          let walk : Walk c.args.ranges.now.list c.args.rows.now.rows (c.rows.range + 1) (c.rows.index + 1) w.end-end-then-row-end.result c.rows.best = walk_over c.args.ranges.now.list c.args.rows.now.rows c.rows.range c.rows.index c.rows.end w.end-end-then-row-end.result c.rows.best c.end-end.ensures.order (omega arith) c.rows.invariant (rw (sym c.at-row.ensures) w.if-row-end.true) w.end-end-then-row-end.ensures.end in
          rw (w.range-is, w.end-is, w.best-is) walk
      | else-row-end+else-difference-eq0 w ↦
          let walk : Walk c.args.ranges.now.list c.args.rows.now.rows c.rows.range (c.rows.index + 1) c.rows.end (Some w.closer.result) = walk_on c.args.ranges.now.list c.args.rows.now.rows c.rows.range c.rows.index c.rows.end w.abs_diff-difference.result c.rows.best w.closer.result c.end-end.ensures.order (omega arith) c.rows.invariant (λ same. absurd (w.if-row-end.false (rw c.at-row.ensures same))) (rw (sym c.at-row.ensures, sym w.at.ensures) w.abs_diff-difference.ensures) (λ none. absurd (w.if-difference-eq0.false none)) w.closer.ensures.none w.closer.ensures.some in
          rw (w.range-is, w.end-is, w.best-is) walk
    ]

pub unreachable-requires : goal.unreachable-requires
unreachable-requires c =
    walk_finds c.args.ranges.now.list c.args.rows.now.rows c.rows.range c.rows.index c.rows.end c.end-end.ensures.order c.requires.tiling c.requires.more (omega arith)
    (subst (λ best. Walk c.args.ranges.now.list c.args.rows.now.rows c.rows.range c.rows.index c.rows.end best) c.in-None.is c.rows.invariant)

pub returns-clause-first : goal.returns-clause-first
returns-clause-first c =
    let walk = subst (λ best. Walk c.args.ranges.now.list c.args.rows.now.rows c.rows.range c.rows.index c.rows.end best) c.in-Some.is c.rows.invariant in
    sym (seen_all c.args.ranges.now.list c.args.rows.now.rows c.rows.index c.in-Some.pair (omega arith) walk.seen)
