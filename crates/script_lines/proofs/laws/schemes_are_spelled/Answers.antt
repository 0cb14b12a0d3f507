use Rattle.script_lines.proofs.SpellKeys.{setting_of-Ok}
use Rattle.script_lines.proofs.SpellSchemes.{action_of-Some, scheme_line-Ok}
use Rattle.script_lines.proofs.laws.schemes_are_spelled.Goals as goal

pub returns : goal.returns
returns c = record { actions = action_of-Some; settings = setting_of-Ok; schemes = scheme_line-Ok }
