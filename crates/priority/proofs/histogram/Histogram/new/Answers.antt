use Rattle.priority.proofs.HistogramLemmas.{sum_from_zeros}
use Rattle.priority.proofs.histogram.Histogram.new.Goals as goal

pub returns-clause-from : goal.returns-clause-from
returns-clause-from g c = λ i. sum_from_zeros g.row.N i
