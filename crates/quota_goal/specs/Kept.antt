-- How goals and slots are stored, and the least number step by step. Only proofs need this file.
use Rattle.std.specs.Prelude.{◌≡◌, ℕ, ◌≤◌, min, List, length, take, Option, Some, None}
use Rattle.std.specs.List.{AllByRecursion}
use Rattle.std.specs.Option.{option_map_or}
use Rattle.damon_types.specs.declared.scheme.Scheme.{Scheme}
use Rattle.quota_goal.specs.declared.goals.TheConstants.{MAX_GOALS}
use Rattle.quota_goal.specs.declared.goals.Goal.{Goal}
use Rattle.quota_goal.specs.declared.tuner.TheConstants.{SLOTS}
use Rattle.quota_goal.specs.Goals.{IsGoal}

-- the first `len` places hold goals, each within its limits
pub record AreGoals (places : List Goal) (len : ℕ) : Type 0 where
  pub count : length places ≡ MAX_GOALS
  pub few : len ≤ MAX_GOALS
  pub each : AllByRecursion IsGoal (take len places)

-- each slot has a place for its scheme and its top
pub record AreSlots (schemes : List (Option Scheme)) (tops : List ℕ) : Type 0 where
  pub schemes_len : length schemes ≡ SLOTS
  pub tops_len : length tops ≡ SLOTS

-- the lesser of two numbers, of those that are there
abbrev pub less : Option ℕ → Option ℕ → Option ℕ
less None b = b
less (Some a) b = Some (option_map_or (min a) b a)
