use Rattle.damon_admin.specs.Kept.{AreOpened}
use Rattle.damon_admin.proofs.context.open_contexts.Given as goal

-- each of those that were taken is opened
abbrev pub invariant-contexts : goal.invariant-contexts
invariant-contexts l = AreOpened l.yielded l.contexts.items
