use Rattle.std.proofs.Common.{sym, ◌∙◌}
use Rattle.damon_types.proofs.Lemmas.{page_of-below}
use Rattle.journal_check.proofs.receipts.front.leading_page.Goals as goal

pub addr_near-place-requires : goal.addr_near-place-requires
addr_near-place-requires c = page_of-below c.args.space.now c.in_ok-target.target c.in_ok-addr.addr c.in_ok-page.page (sym c.page_of.ensures ∙ c.in_ok-page.was)

pub returns-then-place-addr-clause-below : goal.returns-then-place-addr-clause-below
returns-then-place-addr-clause-below c = page_of-below c.args.space.now c.in_ok-target.target c.in_ok-addr.addr c.in_ok-page.page (sym c.page_of.ensures ∙ c.in_ok-page.was)
