use Rattle.std.proofs.Common.{sym, ◌∙◌}
use Rattle.target_ranges.proofs.Faults.{next_accepted}
use Rattle.target_ranges.proofs.check.check_ranges.Goals as goal

pub loop-index-preserved : goal.loop-index-preserved
loop-index-preserved c =
    let next = next_accepted c.args.space.now c.args.unit c.args.cap c.loop-index.index c.args.specs.now (record { target = 0; from = 0; to = 0; class = 0 }) c.loop-index-test.true (sym c.in_default.ensures.exact) in
    record { so_far = c.loop-index.invariant.so_far ∙ next.0; few = next.1 }
