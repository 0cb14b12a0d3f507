use Rattle.std.proofs.Common.{ap, true, ◌∙◌}
use Rattle.clap.specs.Simple.{app_of_fields, on_top}
use Rattle.damon_app.proofs.command.top_command.Goals as goal

pub returns : goal.returns
returns c =
    ap app_of_fields c.subcommand_required.ensures
    ∙ ap (λ f. app_of_fields (record f { subcommand_required = true })) c.disable_help_subcommand.ensures
    ∙ ap (λ f. app_of_fields (record f { disable_help_subcommand = true; subcommand_required = true })) c.disable_help_flag.ensures
    ∙ ap (λ f. app_of_fields (record f { disable_help_flag = true; disable_help_subcommand = true; subcommand_required = true })) c.no_binary_name.ensures
    ∙ ap (on_top (λ s. record s { no_binary_name = true; disable_help_flag = true; disable_help_subcommand = true; subcommand_required = true })) c.new.ensures.app
