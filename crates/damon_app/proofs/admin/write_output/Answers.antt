use Rattle.std.proofs.Common.{refl}
use Rattle.std.proofs.lemmas.Result.{on_ok_weaker}
use Rattle.damon_app.proofs.admin.write_output.Goals as goal

pub returns-clause-all : goal.returns-clause-all
returns-clause-all g c = on_ok_weaker c.hand_over.result (λ appends. appends _ refl) c.hand_over.ensures.all

pub returns-clause-part : goal.returns-clause-part
returns-clause-part g c = c.hand_over.ensures.part _ refl
