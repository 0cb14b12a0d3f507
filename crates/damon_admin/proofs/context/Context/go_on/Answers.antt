use Rattle.std.proofs.Common.{subst}
use Rattle.damon_admin.specs.Kept.{IsContext}
use Rattle.std.proofs.lemmas.Result.{on_ok_weaker}
use Rattle.damon_admin.proofs.context.Context.go_on.Goals as goal

pub returns-in-Running-clause-on : goal.returns-in-Running-clause-on
returns-in-Running-clause-on c =
    on_ok_weaker c.run.result (λ runs own done next is. runs own done next (subst (IsContext own done) c.in-Running.is is)) c.run.ensures
