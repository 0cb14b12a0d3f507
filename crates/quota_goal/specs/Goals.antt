-- Goals of quotas.
use Rattle.std.specs.Prelude.{◌≤◌}
use Rattle.damon_types.specs.declared.scheme.TheConstants.{MAX_SLOT}
use Rattle.quota_goal.specs.declared.goals.Goal.{Goal}

-- a goal within its limits
pub record IsGoal (g : Goal) : Type 0 where
  pub slot : g.slot ≤ MAX_SLOT
  pub target : 1 ≤ g.target
  pub bounds : g.low ≤ g.high
