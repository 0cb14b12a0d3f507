use Rattle.std.proofs.Common.{arith}
use Rattle.std.proofs.lemmas.Bool.Decides.{nat_tests}
use Rattle.heat_report.proofs.Tenths.{tally_done}
use Rattle.heat_report.proofs.frequency.freq.Goals as goal

pub returns : goal.returns
returns c =
    tally_done c.args.aggr c.args.rows.now.rows c.loop-index.index c.loop-index.out c.loop-index.index (grind (arith, nat_tests, c.loop-index-test.false, c.len-index-end.ensures)) c.loop-index.invariant
