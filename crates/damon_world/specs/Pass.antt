-- A pass, by its steps.
use Rattle.std.specs.Prelude.{◌≡◌, ℕ, ◌+◌, ◌≤◌, ◌<◌}
use Rattle.live_commit.specs.declared.phase.Phase.TheVariants.{Idle}
use Rattle.damon_core.specs.State.{Core, row_count}
use Rattle.damon_core.specs.Pass.{IsBetween}
use Rattle.damon_core.specs.Steps.{IsPass, pass_steps}
use Rattle.damon_world.specs.Moment.{Moment, events_of_steps, stepped_times}

-- what a monitor shows after n steps
abbrev pub core_after : ℕ → Moment → Core
core_after n m = (stepped_times n m).state.core

-- The next 2 * rows + 2 steps are a pass; it ends with the last of them, and not before.
pub record TakesItsSteps (m : Moment) : Type 0 where
  pub pass : IsPass (row_count m.state.core) (events_of_steps (pass_steps (row_count m.state.core)) m)
  pub still : (n : ℕ) → n < pass_steps (row_count m.state.core) → (core_after n m).ticks ≡ m.state.core.ticks
  pub under_way : (n : ℕ) → 1 ≤ n → n < pass_steps (row_count m.state.core) → ¬ IsBetween (core_after n m).phase
  pub ticks : (core_after (pass_steps (row_count m.state.core)) m).ticks ≡ m.state.core.ticks + 1
  pub ended : IsBetween (core_after (pass_steps (row_count m.state.core)) m).phase

-- each pass without a touch, a show or a commit in it takes 2 * rows + 2 steps
abbrev pub EachPassTakesItsSteps : Type 0
EachPassTakesItsSteps = (m : Moment) → m.state.core.phase ≡ Idle → 0 < row_count m.state.core → TakesItsSteps m
