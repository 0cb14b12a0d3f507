use Rattle.std.proofs.Common.{ap, arith}
use Rattle.std.specs.Prelude.{sum}
use Rattle.std.proofs.lemmas.List.{take_rest}
use Rattle.priority.proofs.HistogramLemmas.{sum_from_le}
use Rattle.priority.proofs.histogram.Histogram.from.Goals as goal

pub sum_of-requires : goal.sum_of-requires
sum_of-requires g c =
    omega (arith, ap sum (take_rest c.self.inside.sums c.args.index), sum_from_le c.self.inside.sums c.args.index, c.self.invariant.2)
