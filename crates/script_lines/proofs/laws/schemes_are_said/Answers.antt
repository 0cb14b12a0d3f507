use Rattle.script_lines.proofs.SaidSchemes.{scheme_said, scheme_set}
use Rattle.script_lines.proofs.laws.schemes_are_said.Goals as goal

pub returns : goal.returns
returns c = record { said = scheme_said; set = scheme_set }
