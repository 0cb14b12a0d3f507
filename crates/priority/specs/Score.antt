-- The score of a row for a scheme.
use Rattle.std.specs.Prelude.{ℕ, ◌+◌, ◌-◌, ◌*◌, ◌/◌, ◌==◌, min, if◌then◌else◌}
use Rattle.damon_types.specs.declared.row.Row.{Row}
use Rattle.damon_types.specs.declared.scheme.Scheme.{Scheme}
use Rattle.damon_types.specs.declared.scheme.Weights.{Weights}
use Rattle.damon_types.specs.declared.scheme.Prefer.{Prefer}
use Rattle.damon_types.specs.declared.scheme.Prefer.TheVariants.{Hot, Cold}
use Rattle.priority.specs.declared.scoring.TheConstants.{MAX_SCORE}

-- a number as a part of a whole, on a scale from 0 to the greatest score, rounded down
abbrev pub scaled : ℕ → ℕ → ℕ
scaled number whole = min (MAX_SCORE * number / whole) MAX_SCORE

-- an access count on that scale as it is, or its distance from the greatest score where rows with few accesses come first
abbrev pub preferred : Prefer → ℕ → ℕ
preferred Hot count = count
preferred Cold count = MAX_SCORE - count

-- the mean of three numbers by these weights, rounded down; 0 where all weights are 0
abbrev pub weighted_mean : Weights → ℕ → ℕ → ℕ → ℕ
weighted_mean w size count age =
    if w.size + w.count + w.age == 0 then 0
    else (w.size * size + w.count * count + w.age * age) / (w.size + w.count + w.age)

-- What scores are made by: the number of pages of all ranges, the number of passes of an aggregation, and the weights and the
-- preference of a scheme.
pub record Scoring : Type 0 where
  pub total : ℕ
  pub aggr : ℕ
  pub weights : Weights
  pub prefer : Prefer

-- the score of a row by these
abbrev pub score_by : Scoring → Row → ℕ
score_by by row =
    weighted_mean by.weights (scaled row.pages by.total) (preferred by.prefer (scaled row.count by.aggr)) (min row.age MAX_SCORE)

-- The score of a row for a scheme, where all ranges have `total` pages and an aggregation has `aggr` passes: the mean, by the weights,
-- of its pages as a part of all pages, its count as a part of the passes, and its age.
abbrev pub score_of : Row → ℕ → ℕ → Scheme → ℕ
score_of row total aggr scheme =
    weighted_mean scheme.weights (scaled row.pages total) (preferred scheme.prefer (scaled row.count aggr)) (min row.age MAX_SCORE)
