use Rattle.std.proofs.Common.{sym, ap, ◌∙◌}
use Rattle.sampler.proofs.Raised.{none_raised, spans-raised}
use Rattle.sampler.proofs.counting.observe.Goals as goal

pub returns-else-any_hit : goal.returns-else-any_hit
returns-else-any_hit c =
    let regions = c.args.regions.now in
    ap (λ rs. record regions { rows = rs }) (sym (none_raised c.args.picks.now.bits regions.rows (sym c.any_hit.ensures.any ∙ c.if-any_hit.false)))

pub revalue-requires-clause-spans : goal.revalue-requires-clause-spans
revalue-requires-clause-spans c = spans-raised c.bits.result.now c.args.regions.now.rows
