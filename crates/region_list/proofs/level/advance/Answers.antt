use Rattle.std.proofs.Common.{◌≡◌, ℕ, ◌⊎◌, ◌+◌, ◌-◌, ◌^◌, ◌≤◌, ◌<◌, inl, inr, length, drop, sym, ◌∙◌, arith}
use Rattle.region_list.proofs.MoveLemmas.{left_known, right_known, back_true, right_true, is_more, sweep_fits, move_back, back_fits, back_same, move_right, right_same, settled, move_on, move_over, more_after, chain_few, right_nearer}
use Rattle.region_list.proofs.level.advance.Goals as goal

-- where no row is left, all are counted
at_end : (kept left to : ℕ) (P : Type 0) → left ≡ 0 → (kept + 1 + left ≤ to) ⊎ P → (kept + 1 ≤ to) ⊎ P
at_end kept left to P none (inl few) = inl (omega arith)
at_end kept left to P none (inr all) = inr all

pub overflow_add-over : goal.overflow_add-over
overflow_add-over c = omega (arith, (sweep_fits _ _ _ _ _ _ _ _ _ c.len-ranges.ensures.order c.requires.sweep).1)

pub join_rows-sweep-requires-clause-some : goal.join_rows-sweep-requires-clause-some
join_rows-sweep-requires-clause-some c =
    let small : c.args.level < 2 ^ 32 = omega arith in
    let t = back_true _ c.left_difference-left.result c.right_difference-right.result c.args.level (sym c.joins_left.ensures ∙ c.if-joins_left.true) in
    let l = left_known c.args.sweep.now.chain _ c.left_difference-left.result c.args.level c.left_difference-left.ensures t.1 small in
    let within : c.args.sweep.now.kept ≤ length c.args.rows.now.rows = omega (arith, c.requires.ahead, c.requires.within) in
    rw c.at.ensures ((back_fits c.args.ranges.now.list c.args.level c.args.to c.args.rows.now.rows c.args.sweep.now.top c.args.sweep.now.kept c.args.sweep.now.index c.args.sweep.now.chain c.args.sweep.now.range c.args.sweep.now.end c.len-ranges.ensures.order within c.requires.sweep l.0).0)

pub join_rows-sweep-requires-clause-few : goal.join_rows-sweep-requires-clause-few
join_rows-sweep-requires-clause-few c =
    let small : c.args.level < 2 ^ 32 = omega arith in
    let t = back_true _ c.left_difference-left.result c.right_difference-right.result c.args.level (sym c.joins_left.ensures ∙ c.if-joins_left.true) in
    let l = left_known c.args.sweep.now.chain _ c.left_difference-left.result c.args.level c.left_difference-left.ensures t.1 small in
    let within : c.args.sweep.now.kept ≤ length c.args.rows.now.rows = omega (arith, c.requires.ahead, c.requires.within) in
    rw c.at.ensures ((back_fits c.args.ranges.now.list c.args.level c.args.to c.args.rows.now.rows c.args.sweep.now.top c.args.sweep.now.kept c.args.sweep.now.index c.args.sweep.now.chain c.args.sweep.now.range c.args.sweep.now.end c.len-ranges.ensures.order within c.requires.sweep l.0).1)

pub returns-then-joins_left-clause-sweep : goal.returns-then-joins_left-clause-sweep
returns-then-joins_left-clause-sweep c =
    let small : c.args.level < 2 ^ 32 = omega arith in
    let t = back_true _ c.left_difference-left.result c.right_difference-right.result c.args.level (sym c.joins_left.ensures ∙ c.if-joins_left.true) in
    let l = left_known c.args.sweep.now.chain _ c.left_difference-left.result c.args.level c.left_difference-left.ensures t.1 small in
    let within : c.args.sweep.now.kept ≤ length c.args.rows.now.rows = omega (arith, c.requires.ahead, c.requires.within) in
    rw (c.join_rows-sweep.ensures, c.at.ensures) (move_back c.args.ranges.now.list c.args.level c.args.to c.args.rows.now.rows c.args.sweep.now.top c.args.sweep.now.kept c.args.sweep.now.index c.args.sweep.now.chain c.args.sweep.now.range c.args.sweep.now.end within c.requires.sweep l.0)

pub returns-then-joins_left-clause-same : goal.returns-then-joins_left-clause-same
returns-then-joins_left-clause-same c =
    let small : c.args.level < 2 ^ 32 = omega arith in
    let t = back_true _ c.left_difference-left.result c.right_difference-right.result c.args.level (sym c.joins_left.ensures ∙ c.if-joins_left.true) in
    let l = left_known c.args.sweep.now.chain _ c.left_difference-left.result c.args.level c.left_difference-left.ensures t.1 small in
    let within : c.args.sweep.now.kept ≤ length c.args.rows.now.rows = omega (arith, c.requires.ahead, c.requires.within) in
    rw (c.join_rows-sweep.ensures, c.at.ensures) (back_same c.args.ranges.now.list c.args.level c.args.to c.args.rows.now.rows c.args.sweep.now.top c.args.sweep.now.kept c.args.sweep.now.index c.args.sweep.now.chain c.args.sweep.now.range c.args.sweep.now.end c.right_difference-right.result c.len-ranges.ensures.order c.requires.tiling c.requires.enough within c.requires.sweep l.0 (is_more _ _ (sym c.has_more-more.ensures ∙ t.0)) (omega (arith, l.1, t.1)) c.right_difference-right.ensures (omega (arith, l.1, t.2))).same

pub returns-then-joins_left-clause-tiles : goal.returns-then-joins_left-clause-tiles
returns-then-joins_left-clause-tiles c =
    let small : c.args.level < 2 ^ 32 = omega arith in
    let t = back_true _ c.left_difference-left.result c.right_difference-right.result c.args.level (sym c.joins_left.ensures ∙ c.if-joins_left.true) in
    let l = left_known c.args.sweep.now.chain _ c.left_difference-left.result c.args.level c.left_difference-left.ensures t.1 small in
    let within : c.args.sweep.now.kept ≤ length c.args.rows.now.rows = omega (arith, c.requires.ahead, c.requires.within) in
    λ unit before. rw (c.join_rows-sweep.ensures, c.at.ensures) ((back_same c.args.ranges.now.list c.args.level c.args.to c.args.rows.now.rows c.args.sweep.now.top c.args.sweep.now.kept c.args.sweep.now.index c.args.sweep.now.chain c.args.sweep.now.range c.args.sweep.now.end c.right_difference-right.result c.len-ranges.ensures.order c.requires.tiling c.requires.enough within c.requires.sweep l.0 (is_more _ _ (sym c.has_more-more.ensures ∙ t.0)) (omega (arith, l.1, t.1)) c.right_difference-right.ensures (omega (arith, l.1, t.2))).tiles unit before)

pub returns-then-joins_left-clause-less : goal.returns-then-joins_left-clause-less
returns-then-joins_left-clause-less c =
    let small : c.args.level < 2 ^ 32 = omega arith in
    let t = back_true _ c.left_difference-left.result c.right_difference-right.result c.args.level (sym c.joins_left.ensures ∙ c.if-joins_left.true) in
    let l = left_known c.args.sweep.now.chain _ c.left_difference-left.result c.args.level c.left_difference-left.ensures t.1 small in
    let within : c.args.sweep.now.kept ≤ length c.args.rows.now.rows = omega (arith, c.requires.ahead, c.requires.within) in
    omega (arith, l.0, chain_few c.args.ranges.now.list c.args.level c.args.to c.args.rows.now.rows c.args.sweep.now.top c.args.sweep.now.kept (drop c.args.sweep.now.index c.args.rows.now.rows) c.args.sweep.now.chain c.args.sweep.now.range c.args.sweep.now.end c.requires.sweep)

pub join_rows-sweep-requires-then-joins_right-clause-some : goal.join_rows-sweep-requires-then-joins_right-clause-some
join_rows-sweep-requires-then-joins_right-clause-some c = (sweep_fits _ _ _ _ _ _ _ _ _ c.len-ranges.ensures.order c.requires.sweep).0

pub join_rows-sweep-requires-then-joins_right-clause-few : goal.join_rows-sweep-requires-then-joins_right-clause-few
join_rows-sweep-requires-then-joins_right-clause-few c =
    let small : c.args.level < 2 ^ 32 = omega arith in
    let t = right_true _ c.right_difference-right.result c.args.level (sym c.joins_right.ensures ∙ c.if-joins_right.true) in
    let r = right_known c.args.sweep.now.index (length c.args.rows.now.rows) _ _ c.right_difference-right.result c.args.level c.right_difference-right.ensures t.1 small in
    let within : c.args.sweep.now.kept ≤ length c.args.rows.now.rows = omega (arith, c.requires.ahead, c.requires.within) in
    rw c.at-then-joins_right.ensures (omega (arith, (sweep_fits _ _ _ _ _ _ _ _ _ c.len-ranges.ensures.order (move_right c.args.ranges.now.list c.args.level c.args.to c.args.rows.now.rows c.args.sweep.now.top c.args.sweep.now.kept c.args.sweep.now.index c.args.sweep.now.chain c.args.sweep.now.range c.args.sweep.now.end r.0 c.requires.sweep r.1)).1))

pub returns-then-joins_right-clause-sweep : goal.returns-then-joins_right-clause-sweep
returns-then-joins_right-clause-sweep c =
    let small : c.args.level < 2 ^ 32 = omega arith in
    let t = right_true _ c.right_difference-right.result c.args.level (sym c.joins_right.ensures ∙ c.if-joins_right.true) in
    let r = right_known c.args.sweep.now.index (length c.args.rows.now.rows) _ _ c.right_difference-right.result c.args.level c.right_difference-right.ensures t.1 small in
    let within : c.args.sweep.now.kept ≤ length c.args.rows.now.rows = omega (arith, c.requires.ahead, c.requires.within) in
    rw (c.join_rows-sweep-then-joins_right.ensures, c.at-then-joins_right.ensures) (move_right c.args.ranges.now.list c.args.level c.args.to c.args.rows.now.rows c.args.sweep.now.top c.args.sweep.now.kept c.args.sweep.now.index c.args.sweep.now.chain c.args.sweep.now.range c.args.sweep.now.end r.0 c.requires.sweep r.1)

pub returns-then-joins_right-clause-same : goal.returns-then-joins_right-clause-same
returns-then-joins_right-clause-same c =
    let small : c.args.level < 2 ^ 32 = omega arith in
    let t = right_true _ c.right_difference-right.result c.args.level (sym c.joins_right.ensures ∙ c.if-joins_right.true) in
    let r = right_known c.args.sweep.now.index (length c.args.rows.now.rows) _ _ c.right_difference-right.result c.args.level c.right_difference-right.ensures t.1 small in
    let within : c.args.sweep.now.kept ≤ length c.args.rows.now.rows = omega (arith, c.requires.ahead, c.requires.within) in
    let apart : c.right_difference-right.result < c.left_difference-left.result = right_nearer _ c.left_difference-left.result c.right_difference-right.result c.args.level (sym c.joins_left.ensures ∙ c.if-joins_left.false) t.0 t.1 in
    rw (c.join_rows-sweep-then-joins_right.ensures, c.at-then-joins_right.ensures) (right_same c.args.ranges.now.list c.args.level c.args.to c.args.rows.now.rows c.args.sweep.now.top c.args.sweep.now.kept c.args.sweep.now.index c.args.sweep.now.chain c.args.sweep.now.range c.args.sweep.now.end c.left_difference-left.result c.len-ranges.ensures.order c.requires.tiling c.requires.enough within r.0 c.requires.sweep r.1 (is_more _ _ (sym c.has_more-more.ensures ∙ t.0)) (omega (arith, r.2, t.1)) c.left_difference-left.ensures (omega (arith, r.2, apart))).same

pub returns-then-joins_right-clause-tiles : goal.returns-then-joins_right-clause-tiles
returns-then-joins_right-clause-tiles c =
    let small : c.args.level < 2 ^ 32 = omega arith in
    let t = right_true _ c.right_difference-right.result c.args.level (sym c.joins_right.ensures ∙ c.if-joins_right.true) in
    let r = right_known c.args.sweep.now.index (length c.args.rows.now.rows) _ _ c.right_difference-right.result c.args.level c.right_difference-right.ensures t.1 small in
    let within : c.args.sweep.now.kept ≤ length c.args.rows.now.rows = omega (arith, c.requires.ahead, c.requires.within) in
    let apart : c.right_difference-right.result < c.left_difference-left.result = right_nearer _ c.left_difference-left.result c.right_difference-right.result c.args.level (sym c.joins_left.ensures ∙ c.if-joins_left.false) t.0 t.1 in
    λ unit before. rw (c.join_rows-sweep-then-joins_right.ensures, c.at-then-joins_right.ensures) ((right_same c.args.ranges.now.list c.args.level c.args.to c.args.rows.now.rows c.args.sweep.now.top c.args.sweep.now.kept c.args.sweep.now.index c.args.sweep.now.chain c.args.sweep.now.range c.args.sweep.now.end c.left_difference-left.result c.len-ranges.ensures.order c.requires.tiling c.requires.enough within r.0 c.requires.sweep r.1 (is_more _ _ (sym c.has_more-more.ensures ∙ t.0)) (omega (arith, r.2, t.1)) c.left_difference-left.ensures (omega (arith, r.2, apart))).tiles unit before)

pub returns-then-sweep-count-clause-done : goal.returns-then-sweep-count-clause-done
returns-then-sweep-count-clause-done c =
    let within : c.args.sweep.now.kept ≤ length c.args.rows.now.rows = omega (arith, c.requires.ahead, c.requires.within) in
    λ is. at_end c.args.sweep.now.kept (length c.args.rows.now.rows - c.args.sweep.now.index) c.args.to _ (omega (arith, c.if-sweep-count.true, c.count-count.ensures)) (settled c.args.ranges.now.list c.args.level c.args.to c.args.rows.now.rows c.args.sweep.now.top c.args.sweep.now.kept c.args.sweep.now.index c.args.sweep.now.chain c.args.sweep.now.range c.args.sweep.now.end c.left_difference-left.result c.right_difference-right.result within c.requires.sweep c.left_difference-left.ensures (rw (sym c.has_more-more.ensures) (sym c.joins_left.ensures ∙ c.if-joins_left.false)) (rw (sym c.has_more-more.ensures) (sym c.joins_right.ensures ∙ c.if-joins_right.false)))

pub end-sweep-requires : goal.end-sweep-requires
end-sweep-requires c =
    let here : c.args.sweep.now.index < length c.args.rows.now.rows = omega (arith, c.requires.within, c.if-sweep-count.false, c.count-count.ensures) in
    more_after c.args.ranges.now.list c.args.level c.args.to c.args.rows.now.rows c.args.sweep.now.top c.args.sweep.now.kept c.args.sweep.now.index c.args.sweep.now.chain c.args.sweep.now.range c.args.sweep.now.end c.len-ranges.ensures.order here c.requires.sweep c.if-over.true

pub returns-then-over-clause-sweep : goal.returns-then-over-clause-sweep
returns-then-over-clause-sweep c =
    let within : c.args.sweep.now.kept ≤ length c.args.rows.now.rows = omega (arith, c.requires.ahead, c.requires.within) in
    let here : c.args.sweep.now.index < length c.args.rows.now.rows = omega (arith, c.requires.within, c.if-sweep-count.false, c.count-count.ensures) in
    rw (c.at-sweep.ensures, c.set.ensures.set) (move_over c.args.ranges.now.list c.args.level c.args.to c.args.rows.now.rows c.args.sweep.now.top c.args.sweep.now.kept c.args.sweep.now.index c.args.sweep.now.chain c.args.sweep.now.range c.args.sweep.now.end c.end-sweep.result c.len-ranges.ensures.order c.requires.ahead here c.requires.sweep c.if-over.true c.end-sweep.ensures.end (settled c.args.ranges.now.list c.args.level c.args.to c.args.rows.now.rows c.args.sweep.now.top c.args.sweep.now.kept c.args.sweep.now.index c.args.sweep.now.chain c.args.sweep.now.range c.args.sweep.now.end c.left_difference-left.result c.right_difference-right.result within c.requires.sweep c.left_difference-left.ensures (rw (sym c.has_more-more.ensures) (sym c.joins_left.ensures ∙ c.if-joins_left.false)) (rw (sym c.has_more-more.ensures) (sym c.joins_right.ensures ∙ c.if-joins_right.false))))

pub returns-else-over-clause-sweep : goal.returns-else-over-clause-sweep
returns-else-over-clause-sweep c =
    let within : c.args.sweep.now.kept ≤ length c.args.rows.now.rows = omega (arith, c.requires.ahead, c.requires.within) in
    let here : c.args.sweep.now.index < length c.args.rows.now.rows = omega (arith, c.requires.within, c.if-sweep-count.false, c.count-count.ensures) in
    rw (c.at-sweep.ensures, c.set.ensures.set) (move_on c.args.ranges.now.list c.args.level c.args.to c.args.rows.now.rows c.args.sweep.now.top c.args.sweep.now.kept c.args.sweep.now.index c.args.sweep.now.chain c.args.sweep.now.range c.args.sweep.now.end c.requires.ahead here c.requires.sweep c.if-over.false (settled c.args.ranges.now.list c.args.level c.args.to c.args.rows.now.rows c.args.sweep.now.top c.args.sweep.now.kept c.args.sweep.now.index c.args.sweep.now.chain c.args.sweep.now.range c.args.sweep.now.end c.left_difference-left.result c.right_difference-right.result within c.requires.sweep c.left_difference-left.ensures (rw (sym c.has_more-more.ensures) (sym c.joins_left.ensures ∙ c.if-joins_left.false)) (rw (sym c.has_more-more.ensures) (sym c.joins_right.ensures ∙ c.if-joins_right.false))))
