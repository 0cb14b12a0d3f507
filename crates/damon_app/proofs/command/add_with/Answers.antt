use Rattle.std.proofs.Common.{rules, ap, ◌∙◌}
use Rattle.std.proofs.lemmas.Result.{IfOk-weaker}
use Rattle.clap.specs.Words.{App, app_of, rule_of, with_rule, with_subcommand}
use Rattle.damon_app.proofs.command.add_with.Goals as goal

pub returns : goal.returns
returns c =
    IfOk-weaker c.subcommand.result _ _
    (λ r h.
    h.shape (search rules)
    ∙ ap (λ (a : App). with_subcommand (app_of c.args.command) a.top) (c.in_ok-subcommand.ensures.shape c.requires ∙ ap (λ a. with_rule a (rule_of c.args.argument)) c.new.ensures.app))
    c.subcommand.ensures
