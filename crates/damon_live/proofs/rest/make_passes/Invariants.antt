use Rattle.std.proofs.Common.{◌≡◌, ◌-◌}
use Rattle.live_commit.specs.declared.phase.Phase.TheVariants.{Idle}
use Rattle.run_journal.specs.Replay.{replay}
use Rattle.damon_live.specs.Machine.{passes_made}
use Rattle.damon_live.proofs.rest.make_passes.Given as goal

abbrev pub invariant-loop-kept : goal.invariant-loop-kept
invariant-loop-kept g l = (replay g.N.Named.script l.kept).state.core.phase ≡ Idle

abbrev pub decreases-loop-kept : goal.decreases-loop-kept
decreases-loop-kept g l = g.N.Named.script.passes - passes_made l.kept
