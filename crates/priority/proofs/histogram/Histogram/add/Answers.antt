use Rattle.std.proofs.Common.{ap, ◌∙◌, ◌+◌, arith}
use Rattle.std.specs.Prelude.{nat_le, if◌then◌else◌}
use Rattle.priority.specs.Histogram.{sum_from}
use Rattle.priority.proofs.HistogramLemmas.{sum_from_set}
use Rattle.priority.proofs.histogram.Histogram.add.Goals as goal

pub returns-clause-from : goal.returns-clause-from
returns-clause-from g c = λ i.
    sum_from_set c.self.inside.sums c.args.index c.args.pages i (omega (arith, c.self.told, c.requires.index))
    ∙ ap (λ ns. sum_from ns i + (if nat_le i c.args.index then c.args.pages else 0)) c.self.view_is
