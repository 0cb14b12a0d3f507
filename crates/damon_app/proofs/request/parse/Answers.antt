use Rattle.std.proofs.Common.{ap, sym, subst, map, string_bytes, ◌∙◌}
use Rattle.std.proofs.lemmas.Result.{IfOk-weaker}
use Rattle.clap.specs.Faults.{fault_of, is_simple_and_free}
use Rattle.clap.specs.Kinds.{HasKind}
use Rattle.clap.specs.Simple.{is_simple, subcommand_of}
use Rattle.damon_app.specs.Parser.{words_found, request_found}
use Rattle.damon_app.proofs.Parsing.{free, refusal_asks, simple, taken_asks}
use Rattle.damon_app.proofs.request.parse.Goals as goal

pub returns-in-Ok : goal.returns-in-Ok
returns-in-Ok c =
    let app_is = c.in_ok-command.ensures in
    let words = c.args.words.now in
    let passes = ap (λ a. fault_of a (map string_bytes words)) (sym app_is) ∙ c.in-Ok.ensures.kinds (ap is_simple_and_free app_is ∙ free) in
    let found = (c.in-Ok.ensures.matches (ap is_simple app_is ∙ simple)).1 ∙ ap (λ a. subcommand_of a (map string_bytes words)) app_is in
    c.request_in.ensures ∙ ap (λ f. request_found (words_found f)) found ∙ taken_asks words c.requires passes

pub returns-in-Err : goal.returns-in-Err
returns-in-Err c =
    let app_is = c.in_ok-command.ensures in
    let words = c.args.words.now in
    let has = subst (λ a. HasKind (fault_of a (map string_bytes words)) c.in-Err.error) app_is (c.in-Err.ensures.kinds (ap is_simple_and_free app_is ∙ free)) in
    IfOk-weaker c.refusal.result _ _ (λ request none. refusal_asks words c.requires c.in-Err.error request none has) c.refusal.ensures
