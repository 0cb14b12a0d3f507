use Rattle.std.proofs.Common.{ℕ, List, [], ◌∷◌, ◌++◌, ap, ◌∙◌}
use Rattle.run_journal.specs.declared.entry.Receipt.{Receipt}
use Rattle.journal_check.specs.SeenColumns.{zipped}
use Rattle.journal_check.proofs.SeenColumns.{columns_are, columns_pushed, zipped_is}
use Rattle.journal_check.proofs.receipts.list.SeenList.push.Goals as goal

pub invariant_of-self-2 : goal.invariant_of-self-2
invariant_of-self-2 c =
    let l = c.self.inside in
    let worker = c.push_reserved.ensures.items ∙ ap (λ ws. ws ++ c.args.seen.0 ∷ []) c.reserve.ensures.items in
    columns_are _ _ _ (columns_pushed (zipped l.workers.items l.receipts.list) c.args.seen l.workers.items _ l.receipts.list _ c.self.invariant worker c.in_ok-push.ensures.ok)

pub returns-clause-ok : goal.returns-clause-ok
returns-clause-ok c =
    let l = c.self.inside in
    let worker = c.push_reserved.ensures.items ∙ ap (λ ws. ws ++ c.args.seen.0 ∷ []) c.reserve.ensures.items in
    let new = columns_pushed (zipped l.workers.items l.receipts.list) c.args.seen l.workers.items _ l.receipts.list _ c.self.invariant worker c.in_ok-push.ensures.ok in
    zipped_is _ _ _ new ∙ ap (λ (xs : List (ℕ × Receipt)). xs ++ c.args.seen ∷ []) c.self.view_is
