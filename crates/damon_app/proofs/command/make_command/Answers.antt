use Rattle.std.proofs.Common.{ap, ap₂, codes, ◌∙◌}
use Rattle.std.proofs.lemmas.Result.{IfOk-weaker}
use Rattle.clap.specs.Words.{App, Rule, new_app, with_rule, with_subcommand}
use Rattle.damon_app.proofs.command.make_command.Goals as goal

pub returns : goal.returns
returns c =
    let replay_in = c.in_ok-command.ensures ∙ ap (λ (a : App). with_subcommand a (new_app (codes "replay")).top) c.top_command.ensures in
    let json_in = c.in_ok-command-2.ensures ∙ ap (λ (a : App). with_subcommand a (new_app (codes "json")).top) replay_in in
    let verify_in = c.in_ok-command-3.ensures ∙ ap (λ (a : App). with_subcommand a (new_app (codes "verify")).top) json_in in
    let gen_in = c.in_ok-command-4.ensures ∙ ap₂ (λ (a : App) (r : Rule). with_subcommand a (with_rule (new_app (codes "gen")) r).top) verify_in c.number_argument.ensures.rule in
    let heat_in = c.in_ok-command-5.ensures ∙ ap₂ (λ (a : App) (r : Rule). with_subcommand a (with_rule (new_app (codes "heat")) r).top) gen_in c.number_argument-2.ensures.rule in
    let tune_in = c.in_ok-command-6.ensures ∙ ap₂ (λ (a : App) (r : Rule). with_subcommand a (with_rule (new_app (codes "tune")) r).top) heat_in c.goals_argument.ensures.rule in
    let admin_in = c.in_ok-command-7.ensures ∙ ap (λ (a : App). with_subcommand a (new_app (codes "admin")).top) tune_in in
    IfOk-weaker c.add_alone-5.result _ _ (λ r h. h ∙ ap (λ (a : App). with_subcommand a (new_app (codes "reclaim")).top) admin_in) c.add_alone-5.ensures
