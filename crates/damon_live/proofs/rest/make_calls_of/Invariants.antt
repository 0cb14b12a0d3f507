use Rattle.std.proofs.Common.{◌≡◌, ◌-◌, ◌≤◌, ℕ}
use Rattle.live_commit.specs.declared.phase.Phase.TheVariants.{Idle}
use Rattle.run_journal.specs.Replay.{replay}
use Rattle.damon_live.specs.Kept.{calls_asked, calls_made}
use Rattle.damon_live.specs.Machine.{passes_made}
use Rattle.damon_live.proofs.rest.make_calls_of.Given as goal

abbrev pub invariant-loop-kept : goal.invariant-loop-kept
invariant-loop-kept g l =
    ((replay g.N.Named.script l.kept).state.core.phase ≡ Idle)
    × (passes_made l.kept ≡ passes_made l.initial.kept)
    × ((c : ℕ) → calls_made c l.initial.kept ≤ calls_made c l.kept)

abbrev pub decreases-loop-kept : goal.decreases-loop-kept
decreases-loop-kept g l = calls_asked l.controller g.N.Named.script - calls_made l.controller l.kept
