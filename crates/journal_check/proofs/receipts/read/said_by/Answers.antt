use Rattle.std.proofs.Common.{sym, ◌∙◌}
use Rattle.damon_types.proofs.Lemmas.{page_of-below}
use Rattle.journal_check.proofs.receipts.read.said_by.Goals as goal

pub returns-clause-within : goal.returns-clause-within
returns-clause-within c = page_of-below _ c.in-Ok.target c.in-Ok.addr c.in_ok-page.page (sym c.page_of.ensures ∙ c.in_ok-page.was)
