use Rattle.std.proofs.Common.{◌≡◌, ℕ, ◌≤◌, ◌<◌, length}
use Rattle.priority.specs.Histogram.{sum_from}
use Rattle.priority.proofs.histogram.cut_of.Given as goal

abbrev pub invariant-loop-index : goal.invariant-loop-index
invariant-loop-index l = record {
  within : l.index ≤ length l.sums;
  is : l.sum ≡ sum_from l.sums l.index;
  low : (j : ℕ) → l.index ≤ j → j < length l.sums → sum_from l.sums j < l.left;
}

abbrev pub decreases-loop-index : goal.decreases-loop-index
decreases-loop-index l = l.index
