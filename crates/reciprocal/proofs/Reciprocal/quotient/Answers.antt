use Rattle.std.proofs.Common.{ap, ◌∙◌, ◌+◌, ◌*◌, ◌/◌, ◌^◌}
use Rattle.reciprocal.proofs.QuotientLemmas.{quotient_is}
use Rattle.reciprocal.proofs.Reciprocal.quotient.Goals as goal

pub returns : goal.returns
returns c =
    let factor = c.self.inside.factor in
    ap (λ f. f * c.from-3.result / 2 ^ 64) c.from.ensures
    ∙ ap (λ n. factor * n / 2 ^ 64) (c.from-3.ensures ∙ ap (λ n. n + 1) c.from-2.ensures)
    ∙ quotient_is c.self.inside.divisor factor c.args.number c.self.invariant c.ranges.number.fits
    ∙ ap (λ d. c.args.number / d) c.self.view_is
