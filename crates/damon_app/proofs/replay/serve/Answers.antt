use Rattle.std.proofs.Common.{◌≡◌, Option, None, refl, sym, subst, ◌∙◌}
use Rattle.text_io.specs.declared.input.TheConstants.{INPUT_LIMIT}
use Rattle.damon_app.specs.declared.request.Request.{Request}
use Rattle.run_status.specs.declared.status.Status.TheVariants.{Usage}
use Rattle.text_io.specs.Ends.{Ends}
use Rattle.damon_app.specs.Answers.{IsAnswer, ends_of}
use Rattle.damon_app.specs.Request.{asked}
use Rattle.damon_app.proofs.Serving.{not_asked}
use Rattle.damon_app.proofs.replay.serve.Goals as goal

pub returns-in-Ok-None : goal.returns-in-Ok-None
returns-in-Ok-None g c =
    let none : asked c.args.words.now ≡ None = sym c.in-Ok-None.ensures ∙ c.in-Ok-None.field-0-is in
    let source : Ends = ends_of g.S.Source.left g.S.Source.calls c.args.source.now in
    let sink : Ends = ends_of g.K.Sink.taken g.K.Sink.calls c.args.sink.now in
    subst (λ (request : Option Request). IsAnswer INPUT_LIMIT request source source sink sink (c.args.source.now ≡ c.args.source.now) (c.args.sink.now ≡ c.args.sink.now) Usage)
    (sym none) (not_asked INPUT_LIMIT source sink (c.args.source.now ≡ c.args.source.now) (c.args.sink.now ≡ c.args.sink.now) refl refl)
