use Rattle.std.proofs.Common.{◌≡◌, ℕ, Bool, cond, refl, ap, sym, subst, arith}
use Rattle.damon_types.specs.Span.{spans}
use Rattle.region_list.specs.Tiling.{Tiling}
use Rattle.region_list.specs.Shrink.{shrunk}
use Rattle.region_list.proofs.MoveLemmas.{sweep_begin, rows_whole}
use Rattle.region_list.proofs.level.join_level.Goals as goal

abbrev counted : Bool → ℕ
counted b = cond b 1 0

pub moves-init : goal.moves-init
moves-init c = record {
  sweep = rw c.at.ensures (sweep_begin _ _ _ _ _ c.end.ensures.order c.requires.tiling c.requires.some c.end.ensures.end c.requires.low);
  ahead = omega arith;
  cap = refl;
  within = omega (arith, c.requires.some);
  same = rw c.at.ensures (ap (λ rs. shrunk c.args.ranges.now.list c.args.to rs) (rows_whole c.args.rows.now.rows c.requires.some));
  tiles = λ unit before. rw c.at.ensures (subst (λ rs. Tiling unit c.args.ranges.now.list (spans rs)) (sym (rows_whole c.args.rows.now.rows c.requires.some)) before);
  last = λ never. absurd (cc);
  done = λ never. absurd (cc);
}

pub moves-smaller : goal.moves-smaller
moves-smaller c =
    let on : counted c.moves.on ≡ 1 = ap counted c.moves-test.true in
    omega (arith, on, c.advance-on.ensures.less)
