use Rattle.std.proofs.Common.{◌<◌, length, arith, ap, ◌∙◌}
use Rattle.std.proofs.lemmas.Grind.{get_or_default_zero}
use Rattle.damon_types.specs.Space.{offset}
use Rattle.damon_types.proofs.space.Space.first_page.Goals as goal

pub returns-clause-first : goal.returns-clause-first
returns-clause-first c =
    let ts = c.self.inside.targets.items in
    let within : c.args.index < length ts = omega (arith, c.requires, ap length c.self.view_is) in
    c.index.ensures
    ∙ get_or_default_zero c.self.inside.offsets.items c.args.index _ (omega (arith, within, c.self.invariant.count))
    ∙ c.self.invariant.each c.args.index within
    ∙ ap (λ us. offset us c.args.index) c.self.view_is
