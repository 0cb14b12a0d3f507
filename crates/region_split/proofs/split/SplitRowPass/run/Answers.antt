use Rattle.std.proofs.Common.{◌≡◌, ◌-◌, ◌≤◌, ◌++◌, List, length, take, drop, sym, ap, ◌∙◌, arith}
use Rattle.std.proofs.lemmas.List.{length-append, length-drop, take_all}
use Rattle.damon_types.specs.declared.row.Row.{Row}
use Rattle.region_list.specs.Rows.{RowList}
use Rattle.region_split.specs.Split.{split_from}
use Rattle.region_split.proofs.SplitLemmas.{rest_stays}
use Rattle.region_split.proofs.split.SplitRowPass.run.Goals as goal

pub append_rows-requires-clause-room : goal.append_rows-requires-clause-room
append_rows-requires-clause-room c =
    let split = c.args.self.now in
    let full : split.limits.max ≤ c.loop-index.count = omega (arith, c.if-count-self.true, ap (λ s. s.limits.max) c.self.view_is) in
    let left = drop c.loop-index.index c.args.rows.now.rows in
    let stays = rest_stays split.limits split.three split.words.now c.loop-index.count c.loop-index.index left full in
    let whole = ap (λ rs. c.loop-index.made.rows ++ rs) (sym stays) ∙ c.loop-index.invariant.so_far in
    omega (arith, ap (λ (rs : List Row). length rs) whole, length-append c.loop-index.made.rows left, length-drop c.loop-index.index c.args.rows.now.rows, c.count.ensures, c.requires.room, c.loop-index.invariant.capacity)

pub returns-then-count-self : goal.returns-then-count-self
returns-then-count-self c =
    let split = c.args.self.now in
    let full : split.limits.max ≤ c.loop-index.count = omega (arith, c.if-count-self.true, ap (λ s. s.limits.max) c.self.view_is) in
    let left = drop c.loop-index.index c.args.rows.now.rows in
    let stays = rest_stays split.limits split.three split.words.now c.loop-index.count c.loop-index.index left full in
    let all : take (c.count.result - c.loop-index.index) left ≡ left = take_all (c.count.result - c.loop-index.index) left (omega (arith, length-drop c.loop-index.index c.args.rows.now.rows, c.count.ensures)) in
    let put : List Row → RowList = λ rs. record { rows = rs; cap = c.loop-index.made.cap } in
    c.append_rows.ensures
    ∙ ap put (ap (λ rs. c.loop-index.made.rows ++ rs) (all ∙ sym stays) ∙ c.loop-index.invariant.so_far)
    ∙ ap (λ n. record { rows = split_from split.limits split.three split.words.now (length c.args.rows.now.rows) 0 c.args.rows.now.rows; cap = n }) c.loop-index.invariant.capacity
