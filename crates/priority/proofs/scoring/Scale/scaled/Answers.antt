use Rattle.std.proofs.Common.{◌*◌, ◌/◌, ap, ◌∙◌}
use Rattle.std.specs.Prelude.{min}
use Rattle.priority.specs.Score.{scaled}
use Rattle.priority.proofs.ScaleLemmas.{scaled_is}
use Rattle.priority.proofs.scoring.Scale.scaled.Goals as goal

pub returns-then-self-clause-exact : goal.returns-then-self-clause-exact
returns-then-self-clause-exact c =
    let whole = c.self.inside.whole in
    c.quotient.ensures
    ∙ ap (λ n. 99 * c.min-part.result / n) c.self.invariant.1
    ∙ ap (λ n. 99 * n / whole) c.min-part.ensures
    ∙ scaled_is c.args.number whole c.self.invariant.0
    ∙ ap (λ n. scaled c.args.number n) c.self.view_is

pub returns-else-self-clause-exact : goal.returns-else-self-clause-exact
returns-else-self-clause-exact c =
    let whole = c.self.inside.whole in
    ap (λ n. n * c.from-else-self.result / c.from-else-self-2.result) c.from.ensures
    ∙ ap (λ n. 99 * n / c.from-else-self-2.result) (c.from-else-self.ensures ∙ c.min-part.ensures)
    ∙ ap (λ n. 99 * min c.args.number whole / n) c.from-else-self-2.ensures
    ∙ scaled_is c.args.number whole c.self.invariant.0
    ∙ ap (λ n. scaled c.args.number n) c.self.view_is
