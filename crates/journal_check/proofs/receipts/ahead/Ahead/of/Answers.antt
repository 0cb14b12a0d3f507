use Rattle.std.proofs.Common.{◌<◌, ℕ, List, sym, ap, subst, ◌∙◌}
use Rattle.std.specs.Prelude.{All}
use Rattle.run_journal.specs.declared.entry.Receipt.{Receipt}
use Rattle.journal_check.specs.Ahead.{named_by_none}
use Rattle.journal_check.proofs.AheadTables.{ahead_at_first}
use Rattle.journal_check.proofs.receipts.ahead.Ahead.of.Goals as goal

pub invariant_of-result : goal.invariant_of-result
invariant_of-result c =
    ahead_at_first c.in_ok-seen.seen c.in_ok-named.named c.in_ok-marked.marked c.args.pages
    (subst (λ (l : List (ℕ × Receipt)). All (λ x. x.1.page < c.args.pages) l) (sym c.in_ok-seen.ensures) c.requires.within)
    (c.in_ok-named.ensures ∙ ap named_by_none (sym c.in_ok-seen.ensures))
    c.in_ok-marked.ensures
