-- Where a state is among its rows.
use Rattle.std.specs.Prelude.{◌≤◌, ◌<◌}
use Rattle.damon_core.specs.State.{State, row_count}
use Rattle.damon_core.specs.Pass.{IsPickWithin}

-- There is at least one row and there are at most `cap`; and the next pick of a pass under way is that of a row.
pub record IsInPhase (s : State) : Type 0 where
  pub some : 0 < row_count s.core
  pub few : row_count s.core ≤ s.core.regions.cap
  pub pick : IsPickWithin s.core.phase (row_count s.core)
