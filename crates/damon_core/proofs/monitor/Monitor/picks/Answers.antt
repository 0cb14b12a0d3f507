use Rattle.std.proofs.Common.{◌≡◌, ◌<◌, ℕ, true, sym, subst}
use Rattle.std.specs.Prelude.{slice_index}
use Rattle.damon_core.specs.Note.{is_cleared}
use Rattle.damon_core.specs.State.{Core, row_count}
use Rattle.damon_core.specs.Pass.{cleared_so_far}
use Rattle.damon_core.proofs.Hits.{reached_cleared}
use Rattle.damon_core.proofs.monitor.Monitor.picks.Goals as goal

pub returns-clause-cleared : goal.returns-clause-cleared
returns-clause-cleared c s reached stands =
    subst (λ (x : Core). (k : ℕ) → k < cleared_so_far x.phase (row_count x) → is_cleared s.notes (slice_index x.picks k) ≡ true) (sym stands.same) (reached_cleared s reached)
