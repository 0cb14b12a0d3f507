use Rattle.std.proofs.Common.{ap, ◌∙◌}
use Rattle.priority.specs.Score.{score_by}
use Rattle.priority.proofs.FrequentLemmas.{first_less, listed_score, second_less}
use Rattle.priority.proofs.scoring.Scorer.score.Goals as goal

pub returns-then-row-self-clause-exact : goal.returns-then-row-self-clause-exact
returns-then-row-self-clause-exact c =
    let inside = c.self.inside in
    let row = c.args.row.now in
    let frequent = inside.frequent in
    let few = first_less row.pages frequent.pages row.count frequent.count c.if-row-self.true in
    let rare = second_less row.pages frequent.pages row.count frequent.count c.if-row-self.true in
    c.from.ensures
    ∙ listed_score (record { total = inside.pages; aggr = inside.counts; weights = inside.weights; prefer = inside.prefer }) row frequent c.min.result c.self.invariant.1 few rare c.min.ensures
    ∙ ap (λ v. score_by v row) c.self.view_is
