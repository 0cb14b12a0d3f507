use Rattle.damon_live.proofs.Resting.{more_made, one_made}
use Rattle.damon_live.proofs.rest.call_idle.Goals as goal

pub returns-clause-more : goal.returns-clause-more
returns-clause-more g c = λ d. more_made d c.args.kept.now c.call.new.self _ c.call.ensures.entry

pub returns-clause-one : goal.returns-clause-one
returns-clause-one g c = one_made c.args.controller _ c.call.result.answer c.args.kept.now c.call.new.self c.call.ensures.entry
