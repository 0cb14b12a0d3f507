use Rattle.damon_app.specs.Request.{asked}
use Rattle.damon_app.specs.declared.request.Request.TheVariants.{Admin, Report}
use Rattle.damon_app.proofs.Judging.{plain_report, unlawful_text}
use Rattle.damon_app.proofs.replay.replay_main.Goals as goal

pub returns-clause-ok : goal.returns-clause-ok
returns-clause-ok g c e asks =
    plain_report c.reports_are_text.ensures c.args.words.now (g.S.Source.left c.args.source.now) (g.K.Sink.taken c.args.sink.now) (g.K.Sink.taken c.serve.new.sink) asks (λ wanted is. c.serve.ensures.wrote wanted e is)

pub returns-clause-unlawful : goal.returns-clause-unlawful
returns-clause-unlawful g c = λ line e.
    unlawful_text c.rejected_texts_are_unlawful.ensures (asked c.args.words.now) c.serve.result (g.S.Source.left c.args.source.now) line c.serve.ensures.comes c.serve.ensures.refused e

pub returns-clause-report : goal.returns-clause-report
returns-clause-report g c run e asks = c.serve.ensures.wrote (Report run) e asks

pub returns-clause-lawful : goal.returns-clause-lawful
returns-clause-lawful g c request e asks reads = c.serve.ensures.wrote request e asks

pub returns-clause-output : goal.returns-clause-output
returns-clause-output g c e asks = c.serve.ensures.wrote Admin e asks
