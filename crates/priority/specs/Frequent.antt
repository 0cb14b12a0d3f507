-- The scores that a scorer lists. Only proofs need it.
use Rattle.std.specs.Prelude.{◌≡◌, ℕ, ◌+◌, ◌*◌, ◌≤◌, ◌<◌, List, length, slice_index}
use Rattle.damon_types.specs.declared.scheme.Weights.{Weights}
use Rattle.damon_types.specs.declared.scheme.Prefer.{Prefer}
use Rattle.priority.specs.declared.frequent.FrequentScores.{FrequentScores}
use Rattle.priority.specs.declared.scoring.TheConstants.{MAX_SCORE}
use Rattle.priority.specs.Score.{preferred, weighted_mean}

-- by age, the scores of rows whose pages and count are 0 on the scale of scores
pub record AreByAge (weights : Weights) (prefer : Prefer) (scores : List ℕ) : Type 0 where
  pub each : (age : ℕ) → age ≤ MAX_SCORE → slice_index scores age ≡ weighted_mean weights 0 (preferred prefer 0) age
  pub most : (age : ℕ) → age ≤ MAX_SCORE → slice_index scores age ≤ MAX_SCORE

-- the scores of rows with few of `total` pages and a small part of `aggr` as count, if any are listed
pub record AreFrequent (total aggr : ℕ) (weights : Weights) (prefer : Prefer) (frequent : FrequentScores) : Type 0 where
  pub all : length frequent.by_age ≡ MAX_SCORE + 1
  pub pages : frequent.pages * MAX_SCORE < total + MAX_SCORE
  pub count : frequent.count * MAX_SCORE < aggr + MAX_SCORE
  pub scores : 1 ≤ frequent.pages → AreByAge weights prefer frequent.by_age
