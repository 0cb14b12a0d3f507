use Rattle.std.proofs.Common.{◌≡◌, ◌≤◌, ◌<◌, ℕ}
use Rattle.live_commit.specs.declared.phase.Phase.TheVariants.{Idle}
use Rattle.run_journal.specs.Replay.{replay}
use Rattle.damon_live.specs.Kept.{calls_asked, calls_made}
use Rattle.damon_live.specs.Machine.{passes_made}
use Rattle.damon_live.proofs.rest.make_calls.Given as goal

abbrev pub invariant-loop-controller : goal.invariant-loop-controller
invariant-loop-controller g l =
    ((replay g.N.Named.script l.kept).state.core.phase ≡ Idle)
    × (passes_made l.kept ≡ passes_made l.initial.kept)
    × ((c : ℕ) → c < l.controller → calls_asked c g.N.Named.script ≤ calls_made c l.kept)
