use Rattle.std.proofs.Common.{◌∷◌, ◌++◌, [], sym, subst}
use Rattle.damon_admin.specs.Kept.{AreOpened}
use Rattle.damon_admin.proofs.Contexts.{opened_more}
use Rattle.damon_admin.proofs.context.open_contexts.Goals as goal

pub contexts-preserved : goal.contexts-preserved
contexts-preserved c =
    subst (λ xs. AreOpened (c.contexts.yielded ++ c.in-Some.one ∷ []) xs) (sym c.in_ok-push.ensures.items)
    (opened_more c.contexts.yielded c.contexts.contexts.items c.in-Some.one c.in_ok-open_context.field-0 c.contexts.invariant c.in_ok-open_context.ensures)
