use Rattle.std.proofs.Common.{◌≡◌, ◌≤◌, ◌*◌, ℕ, take}
use Rattle.std.specs.Prelude.{sum}
use Rattle.priority.specs.Histogram.{sum_from}
use Rattle.priority.specs.Kept.{passing_from}
use Rattle.priority.proofs.threshold.passing_by_score.Given as goal

abbrev pub invariant-loop-candidate : goal.invariant-loop-candidate
invariant-loop-candidate l = record {
  from : (score : ℕ) → sum_from l.sums score ≡ passing_from (take l.candidate-index l.items) score;
  most : sum l.sums ≤ l.candidate-index * 4294967295;
}
