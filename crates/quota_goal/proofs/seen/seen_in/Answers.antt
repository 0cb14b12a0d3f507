use Rattle.std.proofs.Common.{arith}
use Rattle.std.proofs.lemmas.Bool.Decides.{nat_tests}
use Rattle.quota_goal.proofs.Sharing.{all_counted, counted_shares}
use Rattle.quota_goal.proofs.seen.seen_in.Goals as goal

pub thousandths-requires-clause-some : goal.thousandths-requires-clause-some
thousandths-requires-clause-some c =
    let counted = all_counted c.args.rows.now.rows c.loop-index.index c.loop-index.hot c.loop-index.cold (grind (arith, nat_tests, c.loop-index-test.false, c.len-index-end.ensures)) c.loop-index.invariant.hot c.loop-index.invariant.cold in
    omega (arith, counted.all_are, c.requires)

pub thousandths-requires-2-clause-some : goal.thousandths-requires-2-clause-some
thousandths-requires-2-clause-some c =
    let counted = all_counted c.args.rows.now.rows c.loop-index.index c.loop-index.hot c.loop-index.cold (grind (arith, nat_tests, c.loop-index-test.false, c.len-index-end.ensures)) c.loop-index.invariant.hot c.loop-index.invariant.cold in
    omega (arith, counted.all_are, c.requires)

pub returns : goal.returns
returns c =
    let counted = all_counted c.args.rows.now.rows c.loop-index.index c.loop-index.hot c.loop-index.cold (grind (arith, nat_tests, c.loop-index-test.false, c.len-index-end.ensures)) c.loop-index.invariant.hot c.loop-index.invariant.cold in
    counted_shares c.args.rows.now.rows c.loop-index.hot c.loop-index.cold c.thousandths.result c.thousandths-2.result counted c.thousandths.ensures c.thousandths-2.ensures
