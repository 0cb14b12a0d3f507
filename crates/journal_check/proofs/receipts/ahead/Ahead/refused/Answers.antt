use Rattle.std.proofs.Common.{◌≡◌, ℕ, List, [], Bool, sym, ap, subst, ◌∙◌}
use Rattle.run_journal.specs.declared.entry.Receipt.{Receipt}
use Rattle.journal_check.specs.Ahead.{AheadView, first_refused, first_wrong, named_by}
use Rattle.journal_check.proofs.LastSeen.{wrong_is_refused}
use Rattle.journal_check.proofs.receipts.ahead.Ahead.refused.Goals as goal

pub returns : goal.returns
returns c = λ done is.
    let w = c.self.inside in
    let names = subst (λ (a : AheadView). a.named ≡ named_by done a.receipts) (sym c.self.view_is) is in
    subst (λ (a : AheadView). c.in_ok-index.index ≡ first_refused done [] a.receipts) c.self.view_is
    (
    c.in_ok-index.ensures
    ∙ ap (λ (l : List Bool). first_wrong l [] c.into_list.result) names
    ∙ ap (λ (l : List (ℕ × Receipt)). first_wrong (named_by done w.seen) [] l) c.into_list.ensures
    ∙ wrong_is_refused done [] w.seen
    )
