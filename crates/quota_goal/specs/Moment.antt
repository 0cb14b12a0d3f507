-- Which goals are scored at a moment, and by what.
use Rattle.std.specs.Prelude.{ℕ, Option, Some, None}
use Rattle.quota_goal.specs.declared.goals.GoalKind.{GoalKind}
use Rattle.quota_goal.specs.declared.goals.GoalKind.TheVariants.{Metric as metric, Hot, Cold}
use Rattle.quota_goal.specs.declared.moment.Moment.{Moment}
use Rattle.quota_goal.specs.declared.moment.Moment.TheVariants.{Metric, Seen}
use Rattle.quota_goal.specs.declared.seen.Seen.{Seen as shares}

-- goals of kind metric are scored by a metric, and no others
abbrev pub metric_score : GoalKind → ℕ → Option ℕ
metric_score metric value = Some value
metric_score Hot value = None
metric_score Cold value = None

-- goals of kinds hot and cold are scored by a report
abbrev pub seen_score : GoalKind → shares → Option ℕ
seen_score metric seen = None
seen_score Hot seen = Some seen.hot
seen_score Cold seen = Some seen.cold

-- the score of goals of a kind at a moment, where they are scored then
abbrev pub score_of : GoalKind → Moment → Option ℕ
score_of kind (Metric value) = metric_score kind value
score_of kind (Seen seen) = seen_score kind seen
