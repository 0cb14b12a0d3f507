use Rattle.std.proofs.Common.{ap}
use Rattle.damon_core.specs.State.{Core}
use Rattle.journal_check.proofs.Starting.{IsNew, starts, starts_on_way}
use Rattle.journal_check.proofs.replayer.start.Goals as goal

pub invariant_of-result : goal.invariant_of-result
invariant_of-result c =
    let made = c.in_ok-replay.ensures in
    let new : IsNew c.args.kept c.in_ok-replay.replay =
    record {
      keeping = c.requires.keeping;
      few = c.requires.few;
      begins = λ v j kept. made.begins v kept.seed kept.setup;
      ticks = ap (λ (d : Core). d.ticks) made.opening;
      drawn = made.drawn;
    }
    in
    starts_on_way c.args.kept c.in_ok-replay.replay new c.requires.lawful

pub returns-clause-leads : goal.returns-clause-leads
returns-clause-leads c =
    let made = c.in_ok-replay.ensures in
    let new : IsNew c.args.kept c.in_ok-replay.replay =
    record {
      keeping = c.requires.keeping;
      few = c.requires.few;
      begins = λ v j kept. made.begins v kept.seed kept.setup;
      ticks = ap (λ (d : Core). d.ticks) made.opening;
      drawn = made.drawn;
    }
    in
    λ v j is kept. starts c.args.kept c.in_ok-replay.replay new v j is kept
