use Rattle.std.proofs.Common.{sym, ◌∙◌}
use Rattle.damon_app.proofs.ParsingOptions.{option_asks}
use Rattle.damon_app.proofs.request.read_request.Goals as goal

pub returns-then-has_option : goal.returns-then-has_option
returns-then-has_option c = sym (option_asks c.args.words.now (sym c.has_option.ensures ∙ c.if-has_option.true))
