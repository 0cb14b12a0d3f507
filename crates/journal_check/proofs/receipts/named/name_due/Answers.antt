use Rattle.std.proofs.Common.{subst, ◌∙◌}
use Rattle.journal_check.specs.TagChains.{IsNextOf}
use Rattle.journal_check.proofs.AheadTables.{names_none}
use Rattle.journal_check.proofs.receipts.named.name_due.Goals as goal

pub returns-then-first-len-clause-named : goal.returns-then-first-len-clause-named
returns-then-first-len-clause-named c =
    names_none c.args.pass c.args.picks.now.pages c.args.seen.now c.args.named.now (subst (IsNextOf c.args.pass c.args.seen.now 0) (c.if-first-len.true ∙ c.len.ensures) c.first-first.ensures)
