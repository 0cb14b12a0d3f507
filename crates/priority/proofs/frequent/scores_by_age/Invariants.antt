use Rattle.std.proofs.Common.{◌≡◌, ◌≤◌, ◌<◌, ℕ, length}
use Rattle.std.specs.Prelude.{slice_index}
use Rattle.priority.specs.Score.{preferred, weighted_mean}
use Rattle.priority.proofs.frequent.scores_by_age.Given as goal

abbrev pub invariant-loop-age : goal.invariant-loop-age
invariant-loop-age l = record {
  all : length l.scores ≡ 100;
  count : l.count ≡ preferred l.fn.prefer 0;
  each : (k : ℕ) → k < l.age → slice_index l.scores k ≡ weighted_mean l.weights 0 (preferred l.fn.prefer 0) k;
  most : (k : ℕ) → k < l.age → slice_index l.scores k ≤ 99;
}
